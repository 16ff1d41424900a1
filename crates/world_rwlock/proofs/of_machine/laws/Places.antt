-- What holds of each place's roles, and of their sums.
use Rattle.world_rwlock.proofs.Prelude.{◌≡◌, ◌≢◌, ℕ, ◌+◌, ◌≤◌, zero, suc, true, List, [], ◌∷◌, length, refl, ap, arith, sum_by, sum_by-le-sum_by, sum_by-cons, TurnCourse, holds, turn_at, holding_holds, Place, Out, Upgradable, Writing, AskNoWriter, ReleaseTurn, Add, TryUpgrade, Upgrade, Mark, TryWrite, JoinNoReaders, LookNoReaders, AskNoReaders, AwaitNoReaders, LookUnlisted, LeaveNoReaders, DropUpgradable, DropUpgradableNotify, DropWrite, CancelAwait, Unmark, UnmarkNotify, Down, DownNotify, marks, only_turns, has_turn, writes, in_no_writer, waits_no_writer, in_no_readers, waits_no_readers, fits_turn, place_at, Counts, counts_of}

waits_w : (x : Place) → waits_no_writer x ≤ in_no_writer x
waits_w AskNoWriter = omega arith
waits_w _ = omega arith

waits_r : (x : Place) → waits_no_readers x ≤ in_no_readers x
waits_r CancelAwait = omega arith
waits_r _ = omega arith

waits_marking : (x : Place) → waits_no_readers x ≤ marks x
waits_marking CancelAwait = omega arith
waits_marking _ = omega arith

writes_marking : (x : Place) → writes x ≤ marks x
writes_marking Writing = omega arith
writes_marking _ = omega arith

-- what holds of the numbers because it holds of each place
pub record IsCounted (a : Counts) : Type 0 where
  pub waits_w : a.no_writer.waiting ≤ a.no_writer.listed
  pub waits_r : a.no_readers.waiting ≤ a.no_readers.listed
  pub waits_marking : a.no_readers.waiting ≤ a.marking
  pub writes_marking : a.writing ≤ a.marking

pub counted : (ps : List Place) → IsCounted (counts_of ps)
counted ps = record {
  waits_w = sum_by-le-sum_by waits_no_writer in_no_writer ps waits_w;
  waits_r = sum_by-le-sum_by waits_no_readers in_no_readers ps waits_r;
  waits_marking = sum_by-le-sum_by waits_no_readers marks ps waits_marking;
  writes_marking = sum_by-le-sum_by writes marks ps writes_marking;
}

-- who has the turn holds the turn's mutex
pub turned : (x : Place) (t : TurnCourse) → fits_turn x t ≡ true → has_turn x ≤ holds t
turned (ReleaseTurn e) t h = omega (arith, holding_holds t h)
turned (Add trying) t h = omega (arith, holding_holds t h)
turned Upgradable t h = omega (arith, holding_holds t h)
turned TryUpgrade t h = omega (arith, holding_holds t h)
turned Upgrade t h = omega (arith, holding_holds t h)
turned Mark t h = omega (arith, holding_holds t h)
turned TryWrite t h = omega (arith, holding_holds t h)
turned (JoinNoReaders upgrade) t h = omega (arith, holding_holds t h)
turned (LookNoReaders upgrade) t h = omega (arith, holding_holds t h)
turned (AskNoReaders upgrade) t h = omega (arith, holding_holds t h)
turned (AwaitNoReaders upgrade) t h = omega (arith, holding_holds t h)
turned (LookUnlisted upgrade) t h = omega (arith, holding_holds t h)
turned LeaveNoReaders t h = omega (arith, holding_holds t h)
turned Writing t h = omega (arith, holding_holds t h)
turned DropUpgradable t h = omega (arith, holding_holds t h)
turned DropUpgradableNotify t h = omega (arith, holding_holds t h)
turned DropWrite t h = omega (arith, holding_holds t h)
turned CancelAwait t h = omega (arith, holding_holds t h)
turned (Unmark refused) t h = omega (arith, holding_holds t h)
turned (UnmarkNotify refused) t h = omega (arith, holding_holds t h)
turned (Down keeps) t h = omega (arith, holding_holds t h)
turned DownNotify t h = omega (arith, holding_holds t h)
turned _ t h = omega arith

pub turned_all : (xs : List Place) (ts : List TurnCourse) → length ts ≡ length xs → ((p : ℕ) → fits_turn (place_at xs p) (turn_at ts p) ≡ true) → sum_by only_turns xs + sum_by marks xs ≤ sum_by holds ts
turned_all [] ts e h = omega arith
turned_all (x ∷ xs) [] e h = absurd (omega arith)
turned_all (x ∷ xs) (t ∷ ts) e h =
    omega (arith, sum_by-cons only_turns x xs, sum_by-cons marks x xs, sum_by-cons holds t ts, turned x t (h 0), turned_all xs ts (omega arith) (λ p. h (suc p)))

-- one party's share of a sum, and two parties'
pub share : (f : Place → ℕ) → f Out ≡ 0 → (ps : List Place) (p : ℕ) → f (place_at ps p) ≤ sum_by f ps
share f e [] p = omega (arith, e)
share f e (x ∷ xs) zero = omega (arith, sum_by-cons f x xs)
share f e (x ∷ xs) (suc p) = omega (arith, sum_by-cons f x xs, share f e xs p)

pub shares : (f : Place → ℕ) → f Out ≡ 0 → (ps : List Place) (p q : ℕ) → p ≢ q → f (place_at ps p) + f (place_at ps q) ≤ sum_by f ps
shares f e [] p q apart = omega (arith, e)
shares f e (x ∷ xs) zero zero apart = absurd (apart refl)
shares f e (x ∷ xs) zero (suc q) apart = omega (arith, sum_by-cons f x xs, share f e xs q)
shares f e (x ∷ xs) (suc p) zero apart = omega (arith, sum_by-cons f x xs, share f e xs p)
shares f e (x ∷ xs) (suc p) (suc q) apart = omega (arith, sum_by-cons f x xs, shares f e xs p q (λ same. apart (ap (λ n. suc n) same)))
