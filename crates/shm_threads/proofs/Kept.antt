-- Strands that keep their entries or not, and what a mark says of an entry.
use Rattle.shm_threads.proofs.Names.{◌≡◌, ◌<◌, ℕ, Bool, Option, Some, None, is_some, not, List, [], ◌∷◌, length, map, All, Bor, option_copied, list_any, subst, sym, ◌∙◌, refl, get_or, set, All-map, Reply, is_marked, IsKeptAs, transcript_of, HasEntries, reply_in, Mark, Strand, Answer, HostMemory, Entry, Transcript}
use Rattle.shm_threads.specs.declared.transcript.Answer.TheVariants.{Reply as Replied}
use Rattle.shm_threads.proofs.Placing.{each-set}

-- after a call of a strand
pub kept-set : (kept : Bool) (ss : List Strand) (k : ℕ) (s t : Strand) → k < length ss → ((d : Strand) → get_or ss k d ≡ s) → t.entries.is_kept ≡ s.entries.is_kept
    → All (IsKeptAs kept) ss → All (IsKeptAs kept) (set ss k t)
kept-set kept ss k s t lt here same all =
    let old : IsKeptAs kept s = subst (IsKeptAs kept) (here s) (all k s lt) in
    each-set (IsKeptAs kept) (IsKeptAs kept) ss k t lt all (λ j d less apart theirs. theirs) (same ∙ old)

-- the transcripts keep what the strands kept
pub kept-all : (kept : Bool) (ss : List Strand) (all : List Transcript) → all ≡ map transcript_of ss → All (IsKeptAs kept) ss → All (HasEntries kept) all
kept-all kept ss all is kepts = subst (All (HasEntries kept)) (sym is) (All-map (HasEntries kept) transcript_of ss kepts)

-- one of the marks is set where one of the entries is marked
pub marked_any : (ms : List Mark) → list_any (λ (m : Mark). m.is_set) ms ≡ list_any (λ (e : Entry). is_marked e.answer) (map (λ (m : Mark). m.entry.value) ms)
marked_any [] = refl
marked_any (m ∷ ms) = rw (m.rule, marked_any ms) refl

-- an answer without a reply is marked
pub marked_by : (a : Answer) (r : Option (Bor Reply)) → option_copied r ≡ reply_in a → not (is_some r) ≡ is_marked a
marked_by (Replied x) (Some r) is = refl
marked_by (Replied x) None is = absurd (cc is)
marked_by HostMemory (Some r) is = absurd (cc is)
marked_by HostMemory None is = refl
