-- What a `Kept` owns, taken apart and put together. Assumes `Logic`.
use Rattle.nogcuvema.proofs.Names.{List, [], ◌∷◌, ◌++◌, refl, sym, subst, Option, Some, IsSome, Ura, Ty, impl, tnil, dnil, Val, vptr, vstruct, vcons, vnil, of_list, has_ty, WT, T, ◌&&◌, true≢false, never, fst∗, Fml, Logic, sem, Item, Goal, Seq, Step, step, ‵, ◌$◌, move, fsplit, fjoin, fpick, fpack, feq_i, feq_l, Valss, Ptr, block_ptr, null_ptr, ptr_val, in_a_block, nothing, layout, lone, shape, Al, Fits, handle_tells, and_tt, box_owns, ghosts, Machine, owned, the_row, the_type, RattleType}
use Rattle.std.proofs.Common.{◌≡◌}
use Rattle.std.specs.Prelude.{None}
use mir.Raw.{raw as bare}
use mathlib.Core.Bool.{true}
use types.Kit.{drop}
use denote.Builtin.{RawPtr}
use denote.Struct.Struct.{within}
use Rattle.shm_machine.specs.contracts.machine.Machine.{the_row as Inner}
use Rattle.std.proofs.alloc.Global.TheLaws.{the_row_laws as global_laws}
use Rattle.std.specs.contracts.alloc.Global.{the_row as Heap}
use Rattle.nogcuvema.specs.contracts.parts.Parts as parts

abbrev pub alone : Val → Val
alone v = vstruct (vcons v vnil)

abbrev pub token : Ty → Ptr → Fml
token = ghosts.dealloc_token (record { memory = record { seal = tt } })

abbrev pub al : Al
al = record { row = Heap; laws = global_laws; g = ghosts; d = impl [] tnil dnil; drops = impl [] tnil dnil }

abbrev pub both : Val → Val → Val
both v w = vstruct (vcons v (vcons w vnil))

abbrev pub PartsRow : RattleType
PartsRow = parts.the_row Inner Heap ghosts

abbrev pub parts_type : denote.Struct.Owning.Owning
parts_type = parts.the_type Inner Heap ghosts

pub both_typed : (b o : Prim.Native.Nat.ℕ) (h : Val) → Fits al h → T (has_ty (layout Heap) h && true) × WT (both (vptr b o) h)
both_typed b o h fits = (and_tt (has_ty (layout Heap) h) fits.0, (tt, (fits.1, tt)))

module _ {M : Type 1} {𝓤 : Ura M} {𝓛 : Logic 𝓤} {K : Type 0} {Γ : List (Item 𝓤)} {G : Goal 𝓤 𝓛.H} where
  pub kept_in : K → (p : Ptr) (v : Option Machine) → Step K 𝓛 (‵ (the_row.own_val (record { at = p; value = v }) (alone (ptr_val p) ∷ [])) ∷ Γ) G (‵ (owned token p v) ∷ Γ) G
  kept_in t p v = step (λ s. let w = alone (ptr_val p) in
      nothing t $ feq_i t (List Val) (ptr_val p ∷ []) (ptr_val p ∷ []) refl $ fjoin t $ feq_i t (List Val) (w ∷ []) (w ∷ []) refl $ fjoin t $
      fpack t (Valss (RawPtr ∷ [])) (within (shape the_type) (p, tt) (w ∷ [])) (ptr_val p ∷ [], tt) $ fjoin t $ s)

  pub kept_out : K → (d : the_row.Denot) (vs : List Val) → (vs ≡ alone (ptr_val d.at) ∷ [] → Seq K 𝓛 (‵ (owned token d.at d.value) ∷ Γ) G) → Seq K 𝓛 (‵ (the_row.own_val d vs) ∷ Γ) G
  kept_out t d vs k = fsplit t $ fpick t (λ vss. fsplit t $ feq_l t (λ ev. fsplit t $ feq_l t (λ ep. drop t $
      k (subst (λ (ps : List Val). vs ≡ vstruct (of_list (ps ++ [])) ∷ []) ep ev))))

  pub parts_out : K → (d : PartsRow.Denot) (vs : List Val)
      → ((b o : Prim.Native.Nat.ℕ) (h : Val) → d.ptr ≡ block_ptr b o → vs ≡ both (vptr b o) h ∷ [] → Fits al h → Seq K 𝓛 (‵ (box_owns token Inner (block_ptr b o) d.value) ∷ Γ) G)
      → Seq K 𝓛 (‵ (PartsRow.own_val d vs) ∷ Γ) G
  parts_out t d vs k =
      fsplit t $ fpick t (λ vss. fsplit t $ feq_l t (λ ev. fsplit t $ feq_l t (λ ep. fsplit t $ handle_tells al t d.alloc vss.1.0 (λ h ea fits. drop t $ drop t $
      in_a_block t d.ptr (λ p. box_owns token Inner p d.value) (fst∗ 𝓤 (never 𝓤) (sem 𝓛 (token (bare (lone Inner.mir)) null_ptr))) (λ b o e. k b o h e
      (subst (λ (p : Ptr). vs ≡ vstruct (of_list (ptr_val p ∷ h ∷ [])) ∷ []) e
      (subst (λ (ws : List Val). vs ≡ vstruct (of_list (ptr_val d.ptr ∷ (ws ++ []))) ∷ []) ea (subst (λ (ps : List Val). vs ≡ vstruct (of_list (ps ++ (vss.1.0 ++ []))) ∷ []) ep ev))) fits)))))

  pub parts_in : K → (b o : Prim.Native.Nat.ℕ) (h : Val) (a : Heap.Denot) (x : Inner.Denot)
      → Step K 𝓛 (‵ (PartsRow.own_val (record { ptr = block_ptr b o; alloc = a; value = x }) (both (vptr b o) h ∷ [])) ∷ Γ) G (‵ (box_owns token Inner (block_ptr b o) x) ∷ ‵ (Heap.own_val a (h ∷ [])) ∷ Γ) G
  parts_in t b o h a x = step (λ s. let v : Val = both (vptr b o) h in
      nothing t $ move t (2 ∷ 0 ∷ []) $ fjoin t $ feq_i t (List Val) (vptr b o ∷ []) (vptr b o ∷ []) refl $ fjoin t $ feq_i t (List Val) (v ∷ []) (v ∷ []) refl $ fjoin t $
      fpack t (Valss (RawPtr ∷ Heap ∷ [])) (within (shape parts_type) (block_ptr b o, (a, tt)) (v ∷ [])) (vptr b o ∷ [], (h ∷ [], tt)) $ fjoin t $ s)

  pub held_some : K → (p : Ptr) (v : Option Machine) → IsSome v
      → ((b o : Prim.Native.Nat.ℕ) (c : Machine) → p ≡ block_ptr b o → v ≡ Some c → Seq K 𝓛 (‵ (box_owns token Inner (block_ptr b o) c) ∷ Γ) G)
      → Seq K 𝓛 (‵ (owned token p v) ∷ Γ) G
  held_some t p (Some c) is k = in_a_block t p (λ q. box_owns token Inner q c) (fst∗ 𝓤 (never 𝓤) (sem 𝓛 (token (bare (lone Inner.mir)) null_ptr))) (λ b o e. k b o c e refl)
  held_some t p None is k = absurd (true≢false (sym is))
