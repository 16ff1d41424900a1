-- An action leaves each party where it may stand.
use Rattle.world_mutex.proofs.Prelude.{◌≡◌, ℕ, ◌<◌, true, List, length, None, ap, sym, ◌∙◌, subst, get_or-set_same, get_or-set_other, length-set, Answer, What, Rest, Within, put_in, some_eq, stage_after, Keeps, Called, Place, Out, Next, next_of, place_after, place_at, Guarded, knows, place_of, goes_with, Carries}
use Rattle.world_mutex.specs.Guarded.{Stands}
use Rattle.world_mutex.proofs.table.Turns.{Lands, lands}

abbrev parties : Guarded → ℕ
parties g = length g.lock.places

module _ (g : Guarded) (p : ℕ) (w : Within) (what : What) (a : Answer) (h : Guarded) (known : p < parties g) (c : Called (λ (g : Guarded) p. knows) Stands g p w what) where
  -- where an action of the lock leads
  pub landed : (k : Carries g p w what a h) → put_in what ≡ None → Lands g.value w k.next (place_after k.from k.next)
  landed k none =
      let turned = lands g.value c.stage what w (place_of g p) c.stands c.call c.first none in
      let F : Place → Type 0 = λ y. Lands g.value w (next_of y k.carried.acts.found) (place_after y (next_of y k.carried.acts.found)) in
      let N : Next → Type 0 = λ n. Lands g.value w n (place_after k.from n) in
      subst N (sym k.carried.acts.next_is) (subst F (some_eq (sym turned.starts ∙ k.starts)) (turned.holds k.carried.acts.found))

  -- each party stands then where it may
  pub carry_keeps : put_in what ≡ None → (k : Carries g p w what a h) → Keeps parties Stands g p (stage_after Rest.Holding w a) h
  carry_keeps none k =
      let to : Place = place_after k.from k.next in
      let A : Answer → Type 0 = λ b. goes_with (stage_after Rest.Holding w b) to ≡ true in
      let P : List Place → Type 0 = λ ps. goes_with (stage_after Rest.Holding w a) (place_at ps p) ≡ true in
      record {
        as_many = ap length k.carried.acts.places ∙ length-set g.lock.places p to;
        own = subst P (sym k.carried.acts.places) (rw (get_or-set_same g.lock.places p to Out known) (subst A (sym k.answer) (landed k none).fits));
        others = λ q s apart stood. (let Q : List Place → Type 0 = λ ps. goes_with s (place_at ps q) ≡ true in subst Q (sym k.carried.acts.places) (rw (get_or-set_other g.lock.places p q to Out apart) stood));
      }
