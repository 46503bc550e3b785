use Rattle.shm_threads.proofs.Names.{◌≡◌, ◌+◌, ◌++◌, ◌≤◌, map, vec_len, vec_capacity, into_iter_items, into_iter_len, transcript_of}
use Rattle.shm_threads.proofs.shared.transcripts_of.Given as goal

-- those so far, and those of the strands that are left, for which there is room
abbrev pub invariant-loop-strand : goal.invariant-loop-strand
invariant-loop-strand l =
    (goal.iterator-loop-strand).can_next l.strand-iterator
    × (goal.iterator-loop-strand).is_finite l.strand-iterator
    × (l.transcripts.items ++ map transcript_of (into_iter_items l.strand-iterator) ≡ map transcript_of l.fn.strands.items)
    × (vec_len l.transcripts + into_iter_len l.strand-iterator ≤ vec_capacity l.transcripts)
