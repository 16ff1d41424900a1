-- A table's step as callers see it.
use Rattle.world_rwlock.proofs.Prelude.{◌≡◌, ℕ, false, Some, inl, inr, refl, ap, sym, subst, Answer, Call, Value, Inputs, Move, What, Begin, Refusal, put_in, refused, some_eq, none_some, stage_at, polls_again, Table, place_at, Legal, AnswersAtOnce, Guarded, TableSteps, Stands, Moved as Steps, view_of, inside_or_past}
use Rattle.world_rwlock.proofs.step.Acting.{Way, impossible, over, puts, acts, way, legal}
use Rattle.world_rwlock.proofs.step.Idle as idle
use Rattle.world_rwlock.proofs.step.Idle.{Laws}
use Rattle.world_rwlock.proofs.step.Instants.{at_once, still_at_once, impossible_at_once}
use Rattle.world_rwlock.proofs.table.Kept.{put_is}

-- the call that puts a value
put_call : (what : What) (v : ℕ) → put_in what ≡ Some v → (i : Inputs) × (what ≡ Begin (Call.Put v) i)
put_call (Begin (Call.Put k) i) v e = (i, ap (λ n. Begin (Call.Put n) i) (some_eq e))
put_call _ v e = absurd (none_some e)

stands : (t : Table Guarded) → Laws t → Stands (view_of t)
stands t k = record { seen = refl; laws = k.lock; fits = k.fits }

module _ (t u : Table Guarded) (m : Move) (a : Answer) (old : Laws t) (new : Laws u) where
  abbrev Good : Move → Answer → Table Guarded → Type 0
  Good k b x = Legal (view_of t) k b (view_of x) × AnswersAtOnce (view_of t) k b (view_of x)

  moved : (b : Answer) (x : Table Guarded) (what : What) → a ≡ b → u ≡ x → m.what ≡ what → Good (record { party = m.party; what = what }) b x → Good m a u
  moved b x what ea eu ew g =
      let W : What → Type 0 = λ z. Good (record { party = m.party; what = z }) b x in
      let A : Answer → Type 0 = λ z. Good m z x in
      subst (Good m a) (sym eu) (subst A (sym ea) (subst W (sym ew) g))

  good : Way t u m a → Good m a u
  good (impossible e ea eu) = moved Answer.NotPossible t m.what ea eu refl (idle.impossible t m old e, impossible_at_once (view_of t) m e)
  good (over w e f ea eu) = elim (inside_or_past t.stages m.party) as (λ _. Good m a u) [
    | inl inside ↦ (let it = idle.again_is (stage_at t.stages m.party) m.what (place_at t.machine.lock.places m.party) f (old.fits.stands m.party inside) in
        moved (refused Refusal.Finished) t (Begin Call.Poll it.0) ea eu it.2 (idle.polled_again t m.party it.0 old it.1, still_at_once t (record { party = m.party; what = Begin Call.Poll it.0 }) (refused Refusal.Finished) (view_of t) old it.1 refl refl refl refl))
    | inr past ↦ (let never : polls_again (stage_at t.stages m.party) m.what ≡ false = ap (λ s. polls_again s m.what) past.1 in absurd (cc))
  ]
  good (puts w v inside o e ea eu) =
      let put = put_is (stage_at t.stages m.party) m.what v w (place_at t.machine.lock.places m.party) o e in
      let it = put_call m.what v o in
      moved (Answer.Granted (Value v)) (idle.left t v m.party it.0) (Begin (Call.Put v) it.0) ea eu it.1
      (idle.putting t v m.party it.0 old inside put.stage put.place, still_at_once t (idle.the_move t v m.party it.0) (Answer.Granted (Value v)) (view_of (idle.left t v m.party it.0)) old put.stage refl refl refl refl)
  good (acts w c) = (legal t u m a w c, at_once t u m a w c)

  pub stepped : TableSteps t m a u → Steps (view_of t) m a (view_of u)
  stepped step =
      let both = good (way t u m a old new step) in
      record { legal = both.0; at_once = both.1; did = record { stood = stands t old; step = step; stands = stands u new } }
