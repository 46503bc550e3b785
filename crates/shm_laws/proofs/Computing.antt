-- A history is legal where each reply is the step's, or a pager's failure in its place.
use Rattle.shm_laws.proofs.Names.{◌≡◌, ℕ, ◌+◌, Bool, true, false, if◌then◌else◌, List, [], ◌∷◌, refl, arith, common_steps, Event, Machine, Opening, start_of, Outcome, step, is_refusal, is_failure, LeadsFrom, IsLegal}

-- a failure replaces a reply that is not a refusal; any other reply is the step's
abbrev fits : Bool → Outcome → Event → Type 0
fits true o e = is_refusal o.reply ≡ false
fits false o e = o.reply ≡ e.reply

abbrev pub FitsFrom : ℕ → Machine → List Event → Type 0
FitsFrom n s [] = s ≡ s
FitsFrom n s (e ∷ es) =
    let o = step s n e.pid e.call in
    let failed = is_failure e.call e.reply in
    fits failed o e × FitsFrom (n + 1) (if failed then s else o.state) es

abbrev Leads : ℕ → Machine → List Event → Type 0
Leads n s es = (end : Machine) × LeadsFrom n s es end

leads_one : (n : ℕ) (s : Machine) (e : Event) (es : List Event) (b : Bool) → is_failure e.call e.reply ≡ b → fits b (step s n e.pid e.call) e
    → Leads (n + 1) (if b then s else (step s n e.pid e.call).state) es → Leads n s (e ∷ es)
leads_one n s e es b failure fit more = grind (arith, common_steps)

leads-fit : (n : ℕ) (s : Machine) (es : List Event) → FitsFrom n s es → Leads n s es
leads-fit n s [] h = (s, refl)
leads-fit n s (e ∷ es) h = leads_one n s e es (is_failure e.call e.reply) refl h.0 (leads-fit (n + 1) _ es h.1)

pub legal : (o : Opening) (es : List Event) → FitsFrom 1 (start_of o) es → IsLegal o es
legal o es h = leads-fit 1 (start_of o) es h
