use Rattle.shm_outcomes.proofs.Names.{rules, ◌≡◌, ◌∙◌, ◌++◌, ◌∷◌, [], Some, Contains, false, inl, inr, ap, length, refl, subst, sym, true≢false, is_some, keys_of, values_of, map-append, length-keys_of, get, index_of, Groups, IsAt, group_key_at, Key}
use Rattle.shm_outcomes.proofs.Grouping.{at-last}
use Rattle.shm_outcomes.proofs.Placing.{goes-last, is-at, is-there}
use Rattle.shm_outcomes.proofs.Same.{key_eq, same-key}
use Rattle.shm_outcomes.proofs.groups.Groups.put.Goals as goal

pub returns-in-Some : goal.returns-in-Some
returns-in-Some g c =
    let group_key : Key = group_key_at c.args.script.now c.args.node in
    let is : c.in_ok-group_key.group_key ≡ group_key = c.in_ok-group_key.ensures in
    let found : index_of key_eq c.self.inside.all c.in_ok-group_key.group_key ≡ Some c.in-Some.place = search rules in
    let at = is-at key_eq same-key c.self.inside.all c.in_ok-group_key.group_key c.in-Some.place found in
    (subst (λ (h : Groups). IsAt h.keys c.in-Some.place group_key) c.self.view_is (subst (λ (k : Key). IsAt (keys_of c.self.inside.all.entries) c.in-Some.place k) is at), inl refl)

pub returns : goal.returns
returns g c =
    let group_key : Key = group_key_at c.args.script.now c.args.node in
    let is : c.in_ok-group_key.group_key ≡ group_key = c.in_ok-group_key.ensures in
    let none : is_some (get key_eq c.self.inside.all c.in_ok-group_key.group_key) ≡ false = search rules in
    let put = c.in_ok-insert.ensures.entries ∙ goes-last key_eq same-key c.self.inside.all c.in_ok-group_key.group_key c.args.node none in
    let keys : keys_of c.insert.new.self.entries ≡ c.args.self.now.keys ++ group_key ∷ [] =
    ap (λ es. keys_of es) put ∙ map-append (λ e. e.0) c.self.inside.all.entries ((c.in_ok-group_key.group_key, c.args.node) ∷ [])
    ∙ (λ j. (c.self.view_is j).keys ++ is j ∷ []) in
    let all : values_of c.insert.new.self.entries ≡ c.args.self.now.all ++ c.args.node ∷ [] =
    ap (λ es. values_of es) put ∙ map-append (λ e. e.1) c.self.inside.all.entries ((c.in_ok-group_key.group_key, c.args.node) ∷ [])
    ∙ (λ j. (c.self.view_is j).all ++ c.args.node ∷ []) in
    let long : c.len-place.result ≡ length c.args.self.now.keys = c.len-place.ensures.len ∙ sym (length-keys_of c.self.inside.all.entries) ∙ ap (λ (h : Groups). length h.keys) c.self.view_is in
    let at : IsAt (keys_of c.insert.new.self.entries) c.len-place.result group_key =
    subst (λ l. IsAt l c.len-place.result group_key) (sym keys) (subst (λ n. IsAt (c.args.self.now.keys ++ group_key ∷ []) n group_key) (sym long) (at-last c.args.self.now.keys group_key)) in (
      at,
      inr (
        λ there.
            let old = subst (λ (k : Key). Contains (keys_of c.self.inside.all.entries) k) (sym is) (subst (λ (h : Groups). Contains h.keys group_key) (sym c.self.view_is) there) in
            absurd (true≢false (sym ((is-there key_eq same-key c.self.inside.all c.in_ok-group_key.group_key false (sym none)).1 old))),
        λ j. record { keys = keys j; all = all j },
      ),
    )
