-- Two seats never both hold the lock.
use Rattle.std.proofs.Common.{◌≡◌, ℕ, true, List, set, refl, ap, arith}
use Rattle.atomic_table.specs.Table.{Joins}
use Rattle.lock_place.specs.Held.{RoomId}
use Rattle.words_base.specs.Sums.{weight}
use Rattle.words_base.proofs.Sums.{number-set, number-at}
use Rattle.words_mutex.specs.Rule.{is_holder, Ruled}
use Rattle.words_mutex.specs.Seats.{both_of}
use Rattle.words_mutex.specs.declared.view.View.{View}

module _ (S : Type 0) (entries_of : S → List ℕ) (marked_of : S → ℕ) (is_right : RoomId → ℕ → S → Type 0) (room : RoomId) (deed : ℕ) where
  pub twins : (id : ℕ) (v : View) (other : ℕ) (u spent : View) → v.holds ≡ true → u.holds ≡ true → Joins (Ruled entries_of marked_of is_right room deed) id v other u (both_of v u) spent
  twins id v other u spent mine theirs s r at apart them =
      let n = number-set is_holder s.views id v (both_of v u) at in let m = number-at is_holder (set s.views id (both_of v u)) other u them in
      let a : weight (is_holder v) ≡ 1 = ap weight mine in let b : weight (is_holder u) ≡ 1 = ap weight theirs in let c : weight (is_holder (both_of v u)) ≡ 0 = refl in
      let one = r.word.1 in absurd (omega arith)
