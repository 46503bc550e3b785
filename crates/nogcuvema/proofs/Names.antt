-- The names that the proofs use: those of the crates below, and of the specs of this crate.
pub use Rattle.std.proofs.BoxSteps.Form.{B, Bx, D, P, R, args, box_ty, box_typed, word, τ}
pub use Rattle.std.proofs.BoxSteps.Steps.{box_in, box_out}
pub use Rattle.std.proofs.Common.{Bool, Err, List, Ok, Result, [], ap, false, if◌then◌else◌, inr, lit<, map, nat_lt, not, of_z, refl, rules, subst, sym, take, to_z, w32, ℕ, ◌++◌, ◌+◌, ◌∙◌, ◌∷◌}
pub use Rattle.std.proofs.ResultValues.{and_tt}
pub use Rattle.std.proofs.alloc.Calls.{Al, Fits, Goes-blank, handle_tells, token}
pub use Rattle.std.proofs.raw_atomic.Walks.{leaves, proved_at}
pub use Rattle.std.specs.Box.Ownership.{box_owns}
pub use Rattle.std.specs.Prelude.{IsSome, Option, Some}
pub use Rattle.std.specs.contracts.impls.GlobalAllocator.TheImpl.{ghosts}
pub use Rattle.shm_base.specs.Bounds.{Bounds, bad}
pub use Rattle.shm_base.specs.Calls.{ProcessCall}
pub use Rattle.shm_base.specs.declared.call.Process.{Process}
pub use Rattle.shm_base.specs.declared.call.Reply.{Reply}
pub use Rattle.shm_base.specs.declared.flags.AtFlags.{AtFlags}
pub use Rattle.shm_base.specs.declared.flags.GetFlags.{GetFlags}
pub use Rattle.shm_base.specs.declared.limits.BadLimits.{BadLimits}
pub use Rattle.shm_life.specs.Start.{start_error}
pub use Rattle.shm_machine.specs.Answered.{Answered}
pub use Rattle.shm_machine.specs.Opened.{IsOpened, sizes_of}
pub use Rattle.shm_machine.specs.Stretched.{ReadTo, WrittenTo}
pub use Rattle.shm_machine.specs.declared.machine.Machine.{Machine}
pub use Rattle.shm_machine.specs.declared.opening.AreaConfig.{AreaConfig}
pub use Rattle.shm_machine.specs.declared.refusal.Refusal.{Refusal}
pub use Rattle.shm_machine.specs.declared.stretch.Progress.{Progress}
pub use base.Fml.{Fml, Lft, Share, flft, fsep, ftrue}
pub use base.Logic.{SProp, emp, ent, fst∗, id⊢, never}
pub use borrow.Author.Tests.{tests}
pub use contract.BorrowLft.{◌⊑◌}
pub use contract.Monad.{Fun, fact, fact_i}
pub use contract.Running.{tables}
pub use denote.Exit.{no, yes}
pub use denote.Memory.{lone}
pub use denote.Param.{bounded, layout}
pub use denote.RattleType.{RattleType, Valss, owns}
pub use denote.RawPtr.{Ptr, block_ptr, in_a_block, null_ptr, ptr_val}
pub use denote.Signature.{plain, types_at}
pub use denote.Steps.{heard, nothing, only}
pub use denote.Struct.Owning.{shape}
pub use denote.Struct.Tuple.{Tuple}
pub use denote.Triple.Call.{calls_at, calls_at_last}
pub use denote.Triple.Clauses.{Clauses, Ended}
pub use denote.Triple.Spec.{triple_of}
pub use denote.Triple.Statement.{Contract, Triple}
pub use denote.Triple.Walked.{Stays, ends_at, says, stay_dropped, walk_of}
pub use lib.Dec.{T}
pub use mathlib.Core.Bool.{true≢false, ◌&&◌}
pub use mir.MapTy.{inst_fn}
pub use mir.Syntax.{Args, Body, Dict, Fn, Ty, a_type, assign, copy, dcons, dnil, impl, place, return, rv_opd, seq, tnil}
pub use mir.Val.{Val, WT, has_ty, of_list, vcons, vnil, vptr, vstruct}
pub use prog.Memory.{Memory}
pub use prog.Routine.{Routine}
pub use prog.Wp.{Tables, WpFn}
pub use seplogic.Ra.Ura.{Ura}
pub use sound.WpLaws.{fm_of}
pub use types.ByLocal.{alloc_all, env, free_all, get, get_in, lands_as, lands_last, look_at, pass_all, sets}
pub use types.Kit.{ !, Goal, Item, Seq, Step, at_ret, await, by, done, feq_i, feq_l, fjoin, fpack, fpick, fsplit, join, keep, later, move, pick, qed, raw, rewrite, some, split, split3, step, suffices, use0, use1, ‵, ⋆, ◌$◌, ◌∵◌, ◌⊛◌}
pub use types.Logic.{Logic, sem}
pub use types.Part.{agg, sub, whole}
pub use types.Run.{and_then, blocks, enter, exec, first, fld, lit, no_more, of_opd, returns, stop}
pub use Rattle.nogcuvema.specs.Answers.{AnswersFor, refusal_code}
pub use Rattle.nogcuvema.specs.Owned.{owned}
pub use Rattle.nogcuvema.specs.Opens.{Opens, are_kinds, are_there, area_of, bounds_of, failure_of, process_of}
pub use Rattle.nogcuvema.specs.Through.{ReadBy, WrittenBy, stop_code}
pub use Rattle.nogcuvema.specs.contracts.owned.Kept.{the_row, the_type}
pub use Rattle.nogcuvema.specs.declared.structs.NogArea.{NogArea}
pub use Rattle.nogcuvema.specs.declared.structs.NogFailure.{NogFailure}
pub use Rattle.nogcuvema.specs.declared.structs.NogLimits.{NogLimits}
pub use Rattle.nogcuvema.specs.declared.structs.NogProcess.{NogProcess}
