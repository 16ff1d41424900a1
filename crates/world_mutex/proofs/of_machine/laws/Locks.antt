-- An action of one party keeps what always holds of a mutex.
use Rattle.world_mutex.proofs.Prelude.{◌≡◌, ℕ, ◌+◌, ◌<◌, Bool, List, length, arith, sym, subst, ◌∙◌, length-set, get_or-set_same, get_or-set_other, set, ℕ_discrete, Queue, entries_of, OneAtMost, own_by, others_by, Place, Out, listed, OnParties, Found, Word, action_of, OnWord, CanDo, OnList, tally_of, counts_of, IsLock, SameRoles, place_at}
use Rattle.world_mutex.proofs.of_machine.laws.CanDo.{can_do}
use Rattle.world_mutex.proofs.of_machine.laws.Owners.{on_parties, parties_kept, one_at_most}
use Rattle.world_mutex.proofs.of_machine.laws.Steps.{OnTally, Moves}
use Rattle.world_mutex.proofs.of_machine.laws.Effects.{numbers}
use Rattle.world_mutex.proofs.of_machine.laws.Parties.{moves, counted_all}
use Rattle.world_mutex.proofs.of_machine.laws.Kept.{kept, follows, after}
use Rattle.world_mutex.proofs.of_machine.laws.Marks.{one_marked}

module _ (p : ℕ) (v w : Word) (places : List Place) (list new : Queue) (memory : Bool) where
  pub locked : (from : Place) (f : Found) → IsLock v places list → p < length places → SameRoles from (place_at places p)
      → OnWord (action_of from) f v w → OnList p memory (action_of from) f list new → IsLock w (set places p (after from f)) new
  locked from f lock known same word list_did =
      let to : Place = after from f in
      let can : CanDo p (action_of from) v list = can_do p v places list lock known from same in
      let on_tally : OnTally (action_of from) f (tally_of v list.entries) (tally_of w new.entries) = numbers v w list new p memory (action_of from) f word list_did can in
      let move : Moves from to (counts_of places) (counts_of (set places p to)) = moves places p from to known same in
      let follow = follows (tally_of v list.entries) (tally_of w new.entries) (counts_of places) (counts_of (set places p to)) from f on_tally lock.sound move in
      let parties : OnParties p (action_of from) f list.entries new.entries = on_parties p memory list new (action_of from) f list_did in
      let one : OneAtMost p list.entries new.entries = one_at_most p memory list new (action_of from) f v parties can in
      let counts = own_by p list.entries new.entries one in
      let size : length new.entries + listed from ≡ length list.entries + listed to = follow.in_list in
      let own : entries_of p new.entries ≡ listed to = omega (arith, lock.owners p, same.standing, counts, size) in
      record {
        owners = λ j. elim (ℕ_discrete j p) as (λ _. entries_of j new.entries ≡ listed (place_at (set places p to) j)) [
          | yes e ↦ (let P : ℕ → Type 0 = λ k. entries_of k new.entries ≡ listed (place_at (set places p to) k) in
              subst P (sym e) (rw (get_or-set_same places p to Out known) own))
          | no apart ↦ rw (get_or-set_other places p j to Out apart) (others_by p list.entries new.entries one j apart ∙ lock.owners j)
        ];
        sound = kept (tally_of v list.entries) (tally_of w new.entries) (counts_of places) (counts_of (set places p to)) from f on_tally lock.sound (counted_all places) (counted_all (set places p to)) move;
        one_told = one_marked p (action_of from) f list.entries new.entries parties lock.one_told;
        as_many = parties_kept p memory list new (action_of from) f list_did ∙ (lock.as_many ∙ sym (length-set places p to));
      }
