-- Each party may stand where it does after each action of one.
use Rattle.world_rwlock.proofs.Prelude.{◌≡◌, ℕ, ◌<◌, ◌&&◌, if◌then◌else◌, Bool, true, false, length, Option, Some, None, IsSomeAnd, refl, sym, ap, subst, ◌∙◌, get_or-set_same, get_or-set_other, length-set, Answer, Call, Value, Inputs, What, Begin, Kind, Rest, Stage, Outside, Inside, Forgotten, Within, within, put_in, inputs_of, some_eq, none_some, witness, call_at, stage_after, Keeps as KeepsStanding, Called, turn_at, Next, Place, place_after, fits_turn, RwLock, place_at, Acts, IsRwLock, knows_at, may_put, Guarded, parties, place_of, knows_there as knows, answer_by, place_for, Acted, Does, MovesThere, course_of, is_on_course}
use Rattle.world_base.specs.declared.moves.Answer.TheVariants.{Granted}
use Rattle.world_rwlock.proofs.of_machine.stages.Leads.{led}
use Rattle.world_rwlock.specs.Guarded.{Stands}
use Rattle.world_rwlock.proofs.step.Paths.{Path, Keeps, Seeks, path}
use Rattle.world_rwlock.proofs.table.Stages.{strays_not, stage_fits}
use Rattle.world_rwlock.proofs.table.Calls.{Moves, moving}

-- ---- the path of a step

pub record Walks (x : Place) (n : Next) : Type 0 where
  pub keeps : Keeps (course_of x) n
  pub seeks : Seeks x n

pub walks : (memory starving : Bool) (p : ℕ) (x : Place) (n : Next) (l m : RwLock) (w : Within) → Acts memory starving p x n l m → fits_turn x (turn_at l.turn.courses p) ≡ true → is_on_course w.kind w.was (course_of x) ≡ true → Walks x n
walks memory starving p x n l m w a fits on =
    let it : Path x a.found = path memory l (turn_at m.turn.courses p) x a.found a.finds (led memory starving p l.turn m.turn x a.found a.turn fits) (strays_not w x on) in
    let P : Next → Type 0 = λ n. Walks x n in
    subst P (sym a.next_is) (record { keeps = it.keeps; seeks = it.seeks })

-- ---- a put

never : (b : Bool) (v w : Within) → (if b && false then Some v else None) ≡ Some w → ⊥
never true v w e = none_some e
never false v w e = none_some e

-- only a writer puts, and it stands as before
pub record IsPut (s : Stage) (w : Within) (x : Place) : Type 0 where
  pub stage : s ≡ Outside Rest.Holding
  pub call : w ≡ within Kind.Put Rest.Holding
  pub place : x ≡ Place.Writing

put_at : (s : Stage) (v : ℕ) (i : Inputs) (w : Within) (x : Place) → call_at (knows_at x) s (Begin (Call.Put v) i) ≡ Some w → IsPut s w x
put_at (Outside Rest.Holding) v i w Place.Writing e = record { stage = refl; call = sym (some_eq e); place = refl }
put_at (Outside Rest.Holding) v i w _ e = absurd (none_some e)
put_at (Outside Rest.Idle) v i w x e = absurd (never (may_put x) _ w e)
put_at (Outside Rest.Pending) v i w x e = absurd (never (may_put x) _ w e)
put_at (Outside Rest.Finished) v i w x e = absurd (never (may_put x) _ w e)
put_at (Inside u) v i w x e = absurd (none_some e)
put_at Forgotten v i w x e = absurd (none_some e)

pub put_is : (s : Stage) (what : What) (v : ℕ) (w : Within) (x : Place) → put_in what ≡ Some v → call_at (knows_at x) s what ≡ Some w → IsPut s w x
put_is s (Begin (Call.Put k) i) v w x e h = put_at s k i w x h
put_is s _ v w x e h = absurd (none_some e)

-- ---- any action

module _ (x y : Guarded) (p : ℕ) (w : Within) (what : What) (a : Answer) (laws : IsRwLock x.lock) (known : p < parties x) (c : Called knows Stands x p w what) where
  acts_kept : put_in what ≡ None → Acted x p what a y → KeepsStanding parties Stands x p (stage_after Rest.Holding w a) y
  acts_kept none d =
      let t = turn_at x.lock.turn.courses p in
      let turned = moving x.value t c.stage what (place_of x p) w c.stands c.call c.first none in
      let M : Place → Type 0 = Moves x.value t c.stage what (place_of x p) w in
      let moves : M d.from = subst M (some_eq (sym turned.starts ∙ d.starts)) turned.holds in
      let fits : fits_turn d.from t ≡ true = rw moves.same.in_turn (laws.in_turn p) in
      let walk = walks (inputs_of what).memory (inputs_of what).starving p d.from d.next x.lock y.lock w d.acts fits moves.course in
      let lands : place_of y p ≡ place_after d.next = ap (λ ps. place_at ps p) d.acts.places ∙ get_or-set_same x.lock.places p (place_after d.next) Place.Out known in
      record {
        as_many = ap length d.acts.places ∙ length-set x.lock.places p (place_after d.next);
        own = rw (d.answer, lands) (stage_fits w x.value d.from d.next moves.course walk.keeps);
        others = λ q s apart h.
            let still : place_of y q ≡ place_of x q = ap (λ ps. place_at ps q) d.acts.places ∙ get_or-set_other x.lock.places p q (place_after d.next) Place.Out apart in
            rw still h;
      }

  put_kept : (v : ℕ) → put_in what ≡ Some v → Does (Some v) x p what a y → KeepsStanding parties Stands x p (stage_after Rest.Holding w a) y
  put_kept v e d =
      let put = put_is c.stage what v w (place_of x p) e c.call in
      let there : Stands x p (stage_after Rest.Holding (within Kind.Put Rest.Holding) (Granted (Value v))) = rw put.place refl in
      rw (d.0, d.1, put.call) (record { as_many = refl; own = there; others = λ q s apart h. h })

  pub kept : MovesThere x p w what a y → KeepsStanding parties Stands x p (stage_after Rest.Holding w a) y
  kept d = by_put (put_in what) refl d where
    by_put : (o : Option ℕ) → put_in what ≡ o → Does o x p what a y → KeepsStanding parties Stands x p (stage_after Rest.Holding w a) y
    by_put None e d = acts_kept e d
    by_put (Some v) e d = put_kept v e d

-- what the code does, but for a put
pub acted : (x y : Guarded) (p : ℕ) (w : Within) (what : What) (a : Answer) (n : Next) → put_in what ≡ None → IsSomeAnd (place_for what (place_of x p)) (λ from. Acts (inputs_of what).memory (inputs_of what).starving p from n x.lock y.lock) → a ≡ answer_by x.value n → y.value ≡ x.value → MovesThere x p w what a y
acted x y p w what a n none acts answer value =
    let b = witness (place_for what (place_of x p)) acts in
    let D : Option ℕ → Type 0 = λ o. Does o x p what a y in
    subst D (sym none) (record { from = b.0; next = n; starts = b.1; acts = b.2; answer = answer; value = value })
