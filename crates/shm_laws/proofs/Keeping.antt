-- Every legal history keeps all laws.
use Rattle.shm_laws.proofs.Names.{◌≡◌, ◌∙◌, ◌+◌, [], length, refl, List, Event, Machine, Opening, start_of, IsHistory, IsLawful, NamesOneSegment, KeepsNames, NamesAnew, GoesWhenItMust, DestroysWhatIsDue, Removes, KeepsMarks, AreRemoved, NoWayIn, KeepsOut, KeepsCredentials, GoesBack, EachPiece, KeysLeadToOne, FindsByKey, KeepsKeys, HaveTheirPages, KeepsSizes, SpacesAreLaidOut, PiecesAreOfSegments, GivesPieces, CountsPieces, AreMade}
use Rattle.shm_laws.proofs.Inducting.{always, each_moment}
use Rattle.shm_laws.proofs.Holding.{IsGood, good-start, good-kind, good-move, good-at, each_good, kept_good}
use Rattle.shm_laws.proofs.Naming.{keeps-refl, keeps-trans, keeps-names, names-anew, made-on, made-start}
use Rattle.shm_laws.proofs.Removing.{destroys, marked-pieces}
use Rattle.shm_laws.proofs.Marking.{removes-move, keeps-marks, removed-on}
use Rattle.shm_laws.proofs.Granting.{each-start, goes-on, keeps-out}
use Rattle.shm_laws.proofs.Crediting.{keeps-credentials}
use Rattle.shm_laws.proofs.Keying.{finds-by-key, keeps-keys}
use Rattle.shm_laws.proofs.Sizing.{keeps-sizes}
use Rattle.shm_laws.proofs.Limiting.{limits-stay}
use Rattle.shm_laws.proofs.Spacing.{all-aligned, all-laid-out}
use Rattle.shm_laws.proofs.Piecing.{first-move}
use Rattle.shm_laws.proofs.Counting.{counts-move}
use Rattle.shm_laws.proofs.Remembering.{has_last_writers}
use Rattle.shm_laws.proofs.Isolating.{is_isolated}
use Rattle.shm_laws.proofs.Replaying.{replayed}

module _ (o : Opening) (events : List Event) (end : Machine) (h : IsHistory o events end) where
  pub names_one_segment : NamesOneSegment o events end
  names_one_segment =
      record {
        kept = λ before s m.
            (each_moment IsGood KeepsNames keeps-refl keeps-trans (λ s n e t good m. (good-move s n e t good m, keeps-names s e t good.sound (good-kind s n e t good m))) 1 (start_of o) before s (good-start o) m.leads).1;
        new = each_good NamesAnew (λ s n e t good next k m. names-anew s e t good.sound k) o events end h;
        made = λ before s m. kept_good o (AreMade o) (λ before s e t h good k now m. made-on o before s e t h good.sound k now) (made-start o) before s m.leads;
      }

  pub goes_when_it_must : GoesWhenItMust o events end
  goes_when_it_must =
      record {
        moves = each_good DestroysWhatIsDue (λ s n e t good next k m. destroys s e t good.sound next.sound k) o events end h;
        marked = marked-pieces end (good-at o events end h).sound;
        removals = each_good Removes (λ s n e t good next k m. removes-move s e t good.sound k) o events end h;
        kept = each_good KeepsMarks (λ s n e t good next k m. keeps-marks s e t good.sound k) o events end h;
        removed = λ before s m.
            kept_good o (AreRemoved o) (λ before s e t h good k now m. removed-on o before s e t h good.sound k now) (λ id mark. absurd (cc mark.stands)) before s m.leads;
      }

  pub no_way_in : NoWayIn o events end
  no_way_in =
      record {
        pieces = λ before s m.
            kept_good o (λ before s. EachPiece (GoesBack o before) s) (λ before s e t h good k now m. goes-on o before s e t h (all-aligned s good.spaces) now m)
            (each-start (GoesBack o []) o) before s m.leads;
        moves = each_good KeepsOut (λ s n e t good next k m. keeps-out s n e t good.sound m) o events end h;
        credentials = each_good KeepsCredentials (λ s n e t good next k m. keeps-credentials s n e t m) o events end h;
      }

  pub keys_lead_to_one : KeysLeadToOne o events end
  keys_lead_to_one =
      record {
        apart = λ before s m. (good-at o before s m.leads).keys;
        found = each_good FindsByKey (λ s n e t good next k m. finds-by-key s n e t good.sound m) o events end h;
        kept = each_good KeepsKeys (λ s n e t good next k m. keeps-keys s e t good.sound k) o events end h;
      }

  pub have_their_pages : HaveTheirPages o events end
  have_their_pages =
      record {
        pages = λ before s m. (good-at o before s m.leads).filled;
        kept = each_good KeepsSizes (λ s n e t good next k m. keeps-sizes s e t good.sound k good.filled next.filled) o events end h;
      }

  pub spaces_are_laid_out : SpacesAreLaidOut o events end
  spaces_are_laid_out = record { spaces = λ before s m. all-laid-out o.limits s (limits-kept before s m.leads) (good-at o before s m.leads).spaces }
    where
      limits-kept : (before : List Event) (s : Machine) → IsHistory o before s → s.limits ≡ o.limits
      limits-kept before s l = always o (λ _ u. u.limits ≡ o.limits) (λ before s e t _ now m. limits-stay s (length before + 1) e t m ∙ now) refl before s l

  pub pieces_are_of_segments : PiecesAreOfSegments o events end
  pieces_are_of_segments =
      record {
        moves = each_good GivesPieces (λ s n e t good next k m. record { first = first-move s n e t m; after = next.pieces }) o events end h;
        pieces = (good-at o events end h).pieces;
        counts = each_good CountsPieces (λ s n e t good next k m. counts-move s n e t good.sound.bare m) o events end h;
      }

  pub keeps_laws : IsLawful o events end
  keeps_laws =
      record {
        writers = has_last_writers o events end h;
        identity = names_one_segment;
        removal = goes_when_it_must;
        permission = no_way_in;
        isolation = is_isolated o events end h;
        keys = keys_lead_to_one;
        size = have_their_pages;
        spaces = spaces_are_laid_out;
        pieces = pieces_are_of_segments;
        replay = replayed o events end h;
      }
