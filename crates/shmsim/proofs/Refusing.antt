-- Words that `clap` refuses.
use Rattle.std.specs.Prelude.{◌≡◌, ◌≢◌, ◌⊎◌, true, [], ◌∷◌}
use Rattle.std.proofs.Common.{ap, inl, inr, refl}
use Rattle.clap.proofs.OnLiterals.{clap_on_literals}
use Rattle.clap.specs.Words.{IsAmong, Kinds, is_simple, is_simple_and_free}
use Rattle.clap.specs.declared.error.kind.ErrorKind.{ErrorKind}
use Rattle.clap.specs.declared.error.kind.ErrorKind.TheVariants.{OutOfMemory}
use Rattle.shm_program.specs.declared.fault.RunFault.TheVariants.{HostMemory}
use Rattle.shmsim.specs.Stop.{clap_stop}
use Rattle.shmsim.specs.Words.{command_line}
use Rattle.shmsim.specs.declared.command.Stop.TheVariants.{Usage, Fault}

some-kind : (k : ErrorKind) (kinds : Kinds) → IsAmong k kinds → kinds ≢ []
some-kind k [] among = absurd among
some-kind k (x ∷ xs) among = λ none. cc

any-stop : (k : ErrorKind) → (clap_stop k ≡ Fault HostMemory) ⊎ (clap_stop k ≡ Usage)
any-stop OutOfMemory = inl refl
any-stop _ = inr refl

-- the program stops for lack of memory, or because the words are refused
pub stop-by : (kinds : Kinds) (k : ErrorKind) → (k ≡ OutOfMemory) ⊎ IsAmong k kinds → (clap_stop k ≡ Fault HostMemory) ⊎ ((clap_stop k ≡ Usage) × (kinds ≢ []))
stop-by kinds k (inl out) = inl (ap clap_stop out)
stop-by kinds k (inr among) =
    elim (any-stop k) [
      | inl out ↦ inl out
      | inr usage ↦ inr (usage, some-kind k kinds among)
    ]

-- `clap` says what it makes of the words: the command line has no argument with a rule on another
pub simple-line : is_simple command_line ≡ true
unfolding command_line clap_on_literals
simple-line = refl

pub free-line : is_simple_and_free command_line ≡ true
unfolding command_line clap_on_literals
free-line = refl
