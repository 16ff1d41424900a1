-- A call that is carried out alone ends within its number of steps.
use Rattle.world_rwlock.proofs.Prelude.{◌≡◌, ℕ, ◌+◌, ◌<◌, ◌≤◌, Bool, true, false, refl, arith, ap, sym, ◌∙◌, is_marked_at, is_party, Answer, Call, Value, Inputs, What, Begin, Go, Refusal, Within, inputs_of, refused, going_on, some_eq, left_by as left_of, turn_steps_left, End, Next, Place, LookNoWriter, AskNoWriter, JoinNoReaders, LookNoReaders, AskNoReaders, AwaitNoReaders, LookUnlisted, CancellingTurn, TakeTurn, ReleasingTurn, Down, IsRwLock, RwLock, place_at, left, left_from, steps_left, left_after, Table, Guarded, answer_by, most_steps_of}
use Rattle.world_rwlock.proofs.of_machine.falls.Alone.{fewer, begun_within}
use Rattle.world_rwlock.proofs.step.Acting.{Acting, Way, impossible, over, puts, acts}

-- how many steps are left after this answer
abbrev pub left_by : Answer → Table Guarded → ℕ → ℕ
left_by a t p = left_of a (steps_left t.machine.lock p)

-- ---- no place has no steps left

pub some_left : (x : Place) (here there : Bool) (turn : ℕ) → 0 < turn → 0 < left x here there turn
some_left (LookNoWriter told) here there turn h = grind arith
some_left AskNoWriter here there turn h = grind arith
some_left (TakeTurn p) here there turn h = omega (arith, h)
some_left CancellingTurn here there turn h = omega (arith, h)
some_left (ReleasingTurn e) here there turn h = omega (arith, h)
some_left (JoinNoReaders true) here there turn h = omega arith
some_left (JoinNoReaders false) here there turn h = omega arith
some_left (LookNoReaders upgrade) here there turn h = grind arith
some_left (AskNoReaders upgrade) here there turn h = grind arith
some_left (AwaitNoReaders upgrade) here there turn h = grind arith
some_left (LookUnlisted true) here there turn h = omega arith
some_left (LookUnlisted false) here there turn h = omega arith
some_left (Down true) here there turn h = omega arith
some_left (Down false) here there turn h = omega arith
some_left _ here there turn h = omega arith

steps_some : (v : RwLock) (p : ℕ) → IsRwLock v → 0 < steps_left v p
steps_some v p laws = some_left (place_at v.places p) (is_marked_at (is_party p) v.no_writer) (is_marked_at (is_party p) v.no_readers) (turn_steps_left v.turn p) (laws.turn.some_left p)

-- ---- a step

-- a step's answer says what is left
left_said : (v : ℕ) (n : Next) (t : Table Guarded) (p : ℕ) → left_by (answer_by v n) t p ≡ left_after n t.machine.lock p
left_said v (Next.Do a q) t p = refl
left_said v (Next.Wait q) t p = refl
left_said v (Next.End End.Got q) t p = refl
left_said v (Next.End End.Granted q) t p = refl
left_said v (Next.End End.Pending q) t p = refl
left_said v (Next.End End.NotFree q) t p = refl
left_said v (Next.End End.Waiting q) t p = refl
left_said v (Next.End End.GivenBack q) t p = refl
left_said v (Next.End (End.Refused r) q) t p = refl

one_at_least : (c : Call) → 1 ≤ most_steps_of c
one_at_least Call.Read = omega arith
one_at_least Call.UpgradableRead = omega arith
one_at_least Call.Write = omega arith
one_at_least Call.TryUpgradableRead = omega arith
one_at_least Call.TryWrite = omega arith
one_at_least Call.Poll = omega arith
one_at_least Call.Drop = omega arith
one_at_least Call.Downgrade = omega arith
one_at_least Call.DowngradeToUpgradable = omega arith
one_at_least _ = omega arith

nothing_left : (a b : Answer) (u : Table Guarded) (p : ℕ) → a ≡ b → left_by b u p ≡ 0 → left_by a u p ≡ 0
nothing_left a b u p e z = ap (λ x. left_by x u p) e ∙ z

module _ (t u : Table Guarded) (p : ℕ) where
  -- one step of the party leaves less to do than there was at its place
  less : (what : What) (a : Answer) (w : Within) (c : Acting t u (record { party = p; what = what }) a w) → left_by a u p < left_from c.from t.machine.lock p
  less what a w c =
      let said : left_by a u p ≡ left_after c.next u.machine.lock p = ap (λ x. left_by x u p) c.answer ∙ left_said t.machine.value c.next u p in
      let few = fewer (inputs_of what).memory (inputs_of what).starving p c.from c.next t.machine.lock u.machine.lock (omega (arith, c.old.fits.as_many, c.inside)) c.moves.same (c.old.lock.owners_no_writer p) (c.old.lock.owners_no_readers p) c.acts in
      omega (arith, said, few)

  -- the first step of a call, and what is left then
  pub first : (c : Call) (i : Inputs) (a : Answer) → Way t u (record { party = p; what = Begin c i }) a → 1 + left_by a u p ≤ most_steps_of c
  first c i a (impossible e ea eu) = let none = nothing_left a Answer.NotPossible u p ea refl in omega (arith, one_at_least c)
  first c i a (over w e f ea eu) = let none = nothing_left a (refused Refusal.Finished) u p ea refl in omega (arith, one_at_least c)
  first c i a (puts w v inside o e ea eu) = let none = nothing_left a (Answer.Granted (Value v)) u p ea refl in omega (arith, one_at_least c)
  first c i a (acts w k) = let low = begun_within c (place_at t.machine.lock.places p) k.from t.machine.lock p (left_by a u p) k.starts (less (Begin c i) a w k) in omega (arith, low)

  -- a further step leaves less to do
  pub onward : (i : Inputs) (a : Answer) → IsRwLock t.machine.lock → Way t u (going_on p i) a → left_by a u p < steps_left t.machine.lock p
  onward i a laws (impossible e ea eu) = let none = nothing_left a Answer.NotPossible u p ea refl in omega (arith, steps_some t.machine.lock p laws)
  onward i a laws (over w e f ea eu) = let none = nothing_left a (refused Refusal.Finished) u p ea refl in omega (arith, steps_some t.machine.lock p laws)
  onward i a laws (puts w v inside o e ea eu) = let none = nothing_left a (Answer.Granted (Value v)) u p ea refl in omega (arith, steps_some t.machine.lock p laws)
  onward i a laws (acts w k) =
      let from : k.from ≡ place_at t.machine.lock.places p = sym (some_eq k.starts) in
      let same : left_from k.from t.machine.lock p ≡ steps_left t.machine.lock p = ap (λ x. left_from x t.machine.lock p) from in
      omega (arith, same, less (Go i) a w k)
