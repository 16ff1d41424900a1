-- For how many permits a party's future, guard or call is after an action.
use Rattle.world_semaphore.proofs.Prelude.{◌≡◌, ℕ, true, false, Some, None, refl, Call, Inputs, What, Begin, Go, Stage, Within, call_at, polls_again, Found, Done, Left, Yes, Place, Take, Retake, Join, Ask, Remove, Load, HandOn, PassOn, RefuseFit, Try, Raise, GiveAdded, FitAdded, CancelRemove, CancelLoad, FitGivenBack, Position, Next, next_of, position_after, size_at, knows, goes_with, answer_by, is_begun, size_after}
use Rattle.world_semaphore.specs.machine.Seats.{size_of}
use Rattle.world_semaphore.proofs.of_machine.stages.Taking.{taken}
use Rattle.world_semaphore.proofs.of_machine.stages.Turns.{Turn, turn}

abbrev SizedBy : What → ℕ → Next → Type 0
SizedBy what s n = size_at (position_after n) ≡ size_after what (answer_by n) s

-- whatever the action finds
abbrev pub Sized : Stage → What → Within → Position → Place → Type 0
Sized s what w x from = (f : Found) → SizedBy what (size_at x) (next_of from f)

goes : (i : Inputs) (x : Place) (f : Found) → is_begun x ≡ true → SizedBy (Go i) (size_of x) (next_of x f)
goes i (Take k true told) (Left a) b = refl
goes i (Take k true told) _ b = refl
goes i (Take k false true) (Left a) b = taken (SizedBy (Go i) k) k a refl (λ none. refl)
goes i (Take k false true) _ b = refl
goes i (Take k false false) f b = absurd (cc b)
goes i (Join k told) Done b = refl
goes i (Join k (Some a)) _ b = refl
goes i (Join k None) _ b = refl
goes i (Ask k told) Yes b = refl
goes i (Ask k (Some a)) _ b = refl
goes i (Ask k None) _ b = refl
goes i (Remove k more) Yes b = refl
goes i (Remove k (Some a)) _ b = refl
goes i (Remove k None) _ b = refl
goes i (Load k) f b = refl
goes i (HandOn k a) f b = refl
goes i (PassOn k a) f b = refl
goes i (RefuseFit k a) f b = refl
goes i (GiveAdded n) f b = refl
goes i (FitAdded a) f b = refl
goes i CancelLoad f b = refl
goes i (FitGivenBack a) f b = refl
goes i _ f b = absurd (cc b)

takes : (what : What) (k s : ℕ) → SizedBy what s (next_of (Take k false false) (Left 0)) → SizedBy what s (next_of (Take k false false) Done) → (f : Found) → SizedBy what s (next_of (Take k false false) f)
takes what k s left short (Left a) = left
takes what k s left short _ = short

retakes : (i : Inputs) (k : ℕ) (f : Found) → SizedBy (Begin Call.Poll i) k (next_of (Retake k) f)
retakes i k (Left a) = refl
retakes i k _ = refl

tries : (i : Inputs) (k : ℕ) (f : Found) → SizedBy (Begin (Call.TryAcquire k) i) 0 (next_of (Try k) f)
tries i k (Left a) = refl
tries i k _ = refl

adds : (i : Inputs) (n : ℕ) (f : Found) → SizedBy (Begin (Call.AddPermits n) i) 0 (next_of (Raise n) f)
adds i n Done = refl
adds i n _ = refl

cancels : (i : Inputs) (k : ℕ) (f : Found) → SizedBy (Begin Call.Drop i) k (next_of CancelRemove f)
cancels i k Yes = refl
cancels i k _ = refl

pub sized : (s : Stage) (what : What) (w : Within) (x : Position) → goes_with s x ≡ true → call_at knows s what ≡ Some w → polls_again s what ≡ false → Turn Sized s what w x
sized = turn Sized (record {
  acquire = λ k i. takes (Begin (Call.Acquire k) i) k 0 refl refl;
  try = λ k i. tries i k;
  add = λ n i. adds i n;
  poll = λ k i. takes (Begin Call.Poll i) k k refl refl;
  poll_listed = λ k i. retakes i k;
  abandon = λ k i f. refl;
  cancel = λ k i. cancels i k;
  give_back = λ k i f. refl;
  forget = λ k i f. refl;
  go = λ w x i begun here f. goes i x f begun;
})
