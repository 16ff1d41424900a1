-- From place to place: how a poll that is carried out alone goes on that has the inner lock, or is to get it.
use Rattle.world_barrier.proofs.Prelude.{◌≡◌, ℕ, Bool, refl, sym, subst, Inputs, Aim, Found, Place, EnterLock, TakeLock, Position, At, next_of, Barrier, IsBarrier, position_at}
use Rattle.world_barrier.proofs.whole.Served.{Step, IsSupplied, Serves, serves}
use Rattle.world_barrier.proofs.whole.Locked.{IsTaking, Settles, IsFresh, Goes, SoloThen, then_served, goes_on, Enters, EntersThen, then_entered, gets_at_once}

module _ (p : ℕ) (b : Aim) (s : Barrier) where
  pub serves_inside : (z : Position) (x : Barrier) → Serves p b s z x → (y : Place) × (z ≡ At y)
  serves_inside (At y) x h = (y, refl)
  serves_inside _ x h = absurd h

  pub enters_inside : (z : Position) (x : Barrier) → Enters p b s z x → (y : Place) × (z ≡ At y)
  enters_inside (At y) x h = (y, refl)
  enters_inside _ x h = absurd h

  pub goes_inside : (May : Type 0) (memory : Bool) (z : Position) (x : Barrier) → Goes p b s May memory z x → (y : Place) × (z ≡ At y)
  goes_inside May memory (At y) x h = (y, refl)
  goes_inside May memory _ x h = absurd h.0

  module _ (i : Inputs) (memory : IsSupplied p b s i) (x y : Barrier) where
    enters_so : (a : Aim) (f : Found) → (a ≡ b) × IsFresh p b s x → Step i p (EnterLock a) f x y → EntersThen p b s (next_of (EnterLock a) f) y
    enters_so a f so k =
        let P : Aim → Type 0 = λ c. Step i p (EnterLock c) f x y → EntersThen p b s (next_of (EnterLock c) f) y in
        subst P (sym so.0) (λ j. then_entered p b s (next_of (EnterLock b) f) y (gets_at_once p b s i f x y so.1.free so.1.unstarved so.1.same j)) k

    pub enters_on : (from : Place) (f : Found) → IsBarrier x → IsBarrier y → position_at x.positions p ≡ At from → Enters p b s (At from) x → Step i p from f x y → EntersThen p b s (next_of from f) y
    enters_on (EnterLock a) f laws later here so k = enters_so a f so k
    enters_on from f laws later here so k = then_entered p b s (next_of from f) y (serves p b s i memory x y laws from f here so k)

  module _ (May : Type 0) (i : Inputs) (memory : IsSupplied p b s i) (x y : Barrier) (settles : Settles p b s May i.memory) where
    takes_so : (a : Aim) (f : Found) → (a ≡ b) × IsTaking p b s i.memory x → Step i p (TakeLock a) f x y → SoloThen p b s May i.memory (next_of (TakeLock a) f) y
    takes_so a f so k =
        let P : Aim → Type 0 = λ c. Step i p (TakeLock c) f x y → SoloThen p b s May i.memory (next_of (TakeLock c) f) y in
        subst P (sym so.0) (goes_on p b s May i settles y f x so.1) k

    pub takes_on : (from : Place) (f : Found) → IsBarrier x → IsBarrier y → position_at x.positions p ≡ At from → Goes p b s May i.memory (At from) x → Step i p from f x y → SoloThen p b s May i.memory (next_of from f) y
    takes_on (TakeLock a) f laws later here so k = takes_so a f so k
    takes_on from f laws later here so k = then_served p b s May i.memory (next_of from f) y (serves p b s i memory x y laws from f here so.0 k) so.1
