-- What an action says of its party's own marks and of its steps in the turn.
use Rattle.world_rwlock.proofs.Prelude.{◌≡◌, ℕ, ◌<◌, Bool, true, false, List, refl, ap, Entry, is_marked_at, is_party, entries_of, joined_unmarked, TurnStep, Mutex, turn_left_after, turn_steps_left, most_turn_steps, Action, Found, Done, Yes, Turn, Next, OnNoWriter, OnNoReaders, OnTurn, left}

-- how many steps are left after this, by numbers alone
abbrev pub then_left : Next → Bool → Bool → ℕ → ℕ
then_left (Next.Do action q) here there turn = left q here there turn
then_left _ here there turn = 0

abbrev pub turn_left : TurnStep → ℕ → ℕ
turn_left TurnStep.More turn = turn
turn_left (TurnStep.End e) turn = 0

module _ (here there : Bool) (turn : ℕ) (here' there' : Bool) (turn' : ℕ) where
  abbrev pub Lowers : Action → Found → Type 0
  Lowers Action.Read f = here' ≡ here
  Lowers Action.Load f = there' ≡ there
  Lowers Action.JoinNoWriter Done = here' ≡ false
  Lowers Action.AskNoWriter Yes = here ≡ true
  Lowers Action.JoinNoReaders Done = there' ≡ false
  Lowers Action.AskNoReaders Yes = there ≡ true
  Lowers (Action.Begin c) (Turn n) = turn_left n turn' < most_turn_steps c
  Lowers (Action.Begin c) f = ⊥
  Lowers Action.Go (Turn n) = turn_left n turn' < turn
  Lowers Action.Go f = ⊥
  Lowers _ f = Unit {0}

turn_left_is : (n : TurnStep) (l : Mutex) (p k : ℕ) → turn_left_after n l p < k → turn_left n (turn_steps_left l p) < k
turn_left_is TurnStep.More l p k h = h
turn_left_is (TurnStep.End e) l p k h = h

module _ (memory starving : Bool) (p : ℕ) (l m l' m' : List (Entry ℕ)) (t u : Mutex) where
  pub lowers : (a : Action) (f : Found) → OnNoWriter p a f l l' → OnNoReaders p a f m m' → OnTurn memory starving p a f t u
      → (a ≡ Action.JoinNoWriter → entries_of p l ≡ 0) → (a ≡ Action.JoinNoReaders → entries_of p m ≡ 0)
      → Lowers (is_marked_at (is_party p) l) (is_marked_at (is_party p) m) (turn_steps_left t p) (is_marked_at (is_party p) l') (is_marked_at (is_party p) m') (turn_steps_left u p) a f
  lowers Action.Read f el em et out_w out_r = ap (is_marked_at (is_party p)) el
  lowers Action.Load f el em et out_w out_r = ap (is_marked_at (is_party p)) em
  lowers Action.JoinNoWriter Done el em et out_w out_r = rw el (joined_unmarked p l (out_w refl))
  lowers Action.JoinNoWriter _ el em et out_w out_r = tt
  lowers Action.AskNoWriter Yes el em et out_w out_r = el.0
  lowers Action.AskNoWriter _ el em et out_w out_r = tt
  lowers Action.JoinNoReaders Done el em et out_w out_r = rw em (joined_unmarked p m (out_r refl))
  lowers Action.JoinNoReaders _ el em et out_w out_r = tt
  lowers Action.AskNoReaders Yes el em et out_w out_r = em.0
  lowers Action.AskNoReaders _ el em et out_w out_r = tt
  lowers (Action.Begin c) (Turn n) el em et out_w out_r = turn_left_is n u p (most_turn_steps c) et.bounded
  lowers (Action.Begin c) _ el em et out_w out_r = absurd et
  lowers Action.Go (Turn n) el em et out_w out_r = turn_left_is n u p (turn_steps_left t p) et.falls
  lowers Action.Go _ el em et out_w out_r = absurd et
  lowers _ f el em et out_w out_r = tt
