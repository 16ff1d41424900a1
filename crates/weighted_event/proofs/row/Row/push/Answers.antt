use Rattle.std.proofs.Common.{◌≡◌, ℕ, ◌+◌, ◌++◌, ◌∷◌, [], List, length, take, drop, ap, ◌∙◌, arith}
use Rattle.std.proofs.lemmas.List.{take_at, length_push}
use Rattle.weighted_event.specs.Rows.{item, gathered}
use Rattle.weighted_event.proofs.row.Row.push.Goals as goal

-- what was lent is back
back : {X : Type 0} (n : ℕ) (later old : List X) → length later ≡ n → take n (later ++ drop (length later) old) ≡ later
back n later old long = take_at later (drop (length later) old) n long

pub invariant_of-self : goal.invariant_of-self
invariant_of-self c =
    let v = c.add-self-inside in
    let view : gathered c.self.inside.items.items ≡ c.args.self.now.items = ap (λ v. v.items) c.self.view_is in
    let room : length c.self.inside.places.items ≡ c.args.self.now.room = ap (λ v. v.room) c.self.view_is in
    let items = back c.self.inside.items.len v.new.items c.self.inside.items.items (v.auto.items ∙ c.deref_mut.ensures.len) in
    let places = back c.self.inside.places.len v.new.places c.self.inside.places.items (v.auto.places ∙ c.deref_mut-2.ensures.len) in
    let keys : length v.new.places ≡ c.args.self.now.room = v.auto.places ∙ (ap length c.deref_mut-2.ensures.value ∙ room) in
    let more : length (gathered v.new.items) ≡ length c.args.self.now.items + 1 =
    ap length v.ensures.items ∙ (length_push (gathered c.deref_mut.result.now) (item c.args.key c.args.weight) ∙ ap (λ xs. length xs + 1) (ap gathered c.deref_mut.ensures.value ∙ view)) in
    rw (items, places) (v.ensures.row, omega (arith, more, keys, c.requires.room))

pub returns-clause-items : goal.returns-clause-items
returns-clause-items c =
    let v = c.add-self-inside in
    let view : gathered c.self.inside.items.items ≡ c.args.self.now.items = ap (λ v. v.items) c.self.view_is in
    let items = back c.self.inside.items.len v.new.items c.self.inside.items.items (v.auto.items ∙ c.deref_mut.ensures.len) in
    rw items (v.ensures.items ∙ ap (λ xs. xs ++ item c.args.key c.args.weight ∷ []) (ap gathered c.deref_mut.ensures.value ∙ view))
