-- What an action does to what is in the cell, and to what parties know of it.
use Rattle.world_once_cell.proofs.Prelude.{◌≡◌, ◌≢◌, ℕ, ◌==◌, ◌⊎◌, inl, inr, true, false, List, Some, refl, arith, ap, sym, ◌∙◌, Entry, Inputs, some_eq, none_some, Found, ListName, Active, Passive, Place, Claim, ClaimListed, JoinActive, AskActive, LeaveToMake, Make, Fill, NotifyActive, NotifyPassive, Fail, FailNotify, LeaveFull, RefuseActive, Look, JoinPassive, LookListed, AskPassive, LeavePassive, RefusePassive, Try, TryFill, TryNotifyActive, TryNotifyPassive, CancelMake, CancelNotify, CancelLeave, Abandon, At, Content, action_of, makes_at, value_known, will_tell, Finds, effect_of, content_after, is_maker}
use Rattle.std.proofs.lemmas.Bool.Decides.{nat_tests}
use Rattle.sync_program.specs.declared.once_cell.Found.TheVariants as found
use Rattle.world_once_cell.proofs.of_machine.laws.Kept.{after}

same_party : (q p : ℕ) → (q == p) ≡ true → q ≡ p
same_party q p h = grind (arith, nat_tests)

its_own : (p : ℕ) → (p == p) ≡ true
its_own p = grind (arith, nat_tests)

another : (p j : ℕ) → j ≢ p → (p == j) ≡ false
another p j apart = grind (arith, nat_tests)

pub maker_is : (c : Content) (p : ℕ) → is_maker c p ≡ true → c ≡ Content.BeingMade p
maker_is Content.Empty p h = absurd (cc)
maker_is (Content.BeingMade q) p h = ap Content.BeingMade (same_party q p h)
maker_is (Content.Full v) p h = absurd (cc)

pub is_its_maker : (p : ℕ) → is_maker (Content.BeingMade p) p ≡ true
is_its_maker p = its_own p

not_its : (c : Content) (p j : ℕ) → is_maker c p ≡ true → j ≢ p → is_maker c j ≡ false
not_its c p j h apart = ap (λ c. is_maker c j) (maker_is c p h) ∙ another p j apart

module _ (i : Inputs) (p : ℕ) (c : Content) (q r : List (Entry ℕ)) where
  abbrev then : Place → Found → Content
  then x f = content_after p (effect_of (action_of x) f) c

  empty_full : (v : ℕ) → c ≡ Content.Empty → c ≡ Content.Full v → ⊥
  empty_full v e full = let never : Content.Empty ≡ Content.Full v = sym e ∙ full in cc never

  made_full : (v : ℕ) → true ≡ is_maker c p → c ≡ Content.Full v → ⊥
  made_full v m full = let never : true ≡ is_maker (Content.Full v) p = m ∙ ap (λ c. is_maker c p) full in cc never

  -- a full cell stays as it is
  pub full_stays : (x : Place) (f : Found) → Finds i p (action_of x) f c q r → makes_at (At x) ≡ is_maker c p → (v : ℕ) → c ≡ Content.Full v → then x f ≡ Content.Full v
  full_stays (Claim k told) found.Empty e m n full = absurd (empty_full n e full)
  full_stays (Claim k told) found.BeingMade e m n full = full
  full_stays (Claim k told) (found.Full u) e m n full = full
  full_stays (Claim k told) _ e m n full = absurd e
  full_stays (ClaimListed k) found.Empty e m n full = absurd (empty_full n e full)
  full_stays (ClaimListed k) found.BeingMade e m n full = full
  full_stays (ClaimListed k) (found.Full u) e m n full = full
  full_stays (ClaimListed k) _ e m n full = absurd e
  full_stays (JoinActive k told) found.Done e m n full = full
  full_stays (JoinActive k told) found.NoMemory e m n full = full
  full_stays (JoinActive k told) _ e m n full = absurd e
  full_stays (AskActive k) found.Yes e m n full = full
  full_stays (AskActive k) found.No e m n full = full
  full_stays (AskActive k) _ e m n full = absurd e
  full_stays (LeaveToMake k) found.Done e m n full = full
  full_stays (LeaveToMake k) _ e m n full = absurd e
  full_stays (Make k) f e m n full = full
  full_stays (Fill v) found.Done e m n full = absurd (made_full n m full)
  full_stays (Fill v) _ e m n full = absurd e
  full_stays (NotifyActive v) found.Done e m n full = full
  full_stays (NotifyActive v) _ e m n full = absurd e
  full_stays (NotifyPassive v) found.Done e m n full = full
  full_stays (NotifyPassive v) _ e m n full = absurd e
  full_stays Fail found.Done e m n full = absurd (made_full n m full)
  full_stays Fail _ e m n full = absurd e
  full_stays FailNotify found.Done e m n full = full
  full_stays FailNotify _ e m n full = absurd e
  full_stays (LeaveFull k v) found.Done e m n full = full
  full_stays (LeaveFull k v) _ e m n full = absurd e
  full_stays (RefuseActive k) found.Done e m n full = full
  full_stays (RefuseActive k) _ e m n full = absurd e
  full_stays (Look told) f e m n full = full
  full_stays (JoinPassive told) found.Done e m n full = full
  full_stays (JoinPassive told) found.NoMemory e m n full = full
  full_stays (JoinPassive told) _ e m n full = absurd e
  full_stays LookListed f e m n full = full
  full_stays AskPassive found.Yes e m n full = full
  full_stays AskPassive found.No e m n full = full
  full_stays AskPassive _ e m n full = absurd e
  full_stays (LeavePassive v) found.Done e m n full = full
  full_stays (LeavePassive v) _ e m n full = absurd e
  full_stays RefusePassive found.Done e m n full = full
  full_stays RefusePassive _ e m n full = absurd e
  full_stays (Try v) found.Empty e m n full = absurd (empty_full n e full)
  full_stays (Try v) found.BeingMade e m n full = full
  full_stays (Try v) (found.Full u) e m n full = full
  full_stays (Try v) _ e m n full = absurd e
  full_stays (TryFill v) found.Done e m n full = absurd (made_full n m full)
  full_stays (TryFill v) _ e m n full = absurd e
  full_stays (TryNotifyActive v) found.Done e m n full = full
  full_stays (TryNotifyActive v) _ e m n full = absurd e
  full_stays (TryNotifyPassive v) found.Done e m n full = full
  full_stays (TryNotifyPassive v) _ e m n full = absurd e
  full_stays CancelMake found.Done e m n full = absurd (made_full n m full)
  full_stays CancelMake _ e m n full = absurd e
  full_stays CancelNotify found.Done e m n full = full
  full_stays CancelNotify _ e m n full = absurd e
  full_stays (CancelLeave list) found.Done e m n full = full
  full_stays (CancelLeave list) _ e m n full = absurd e
  full_stays Abandon f e m n full = full

  -- a cell that is full then was full before, or its party is about to tell all
  pub full_before : (x : Place) (f : Found) → Finds i p (action_of x) f c q r → (v : ℕ) → then x f ≡ Content.Full v → (c ≡ Content.Full v) ⊎ ((list : ListName) → will_tell list (after x f) ≡ true)
  full_before (Claim k told) found.Empty e n full = absurd (cc full)
  full_before (Claim k told) found.BeingMade e n full = inl full
  full_before (Claim k told) (found.Full u) e n full = inl full
  full_before (Claim k told) _ e n full = absurd e
  full_before (ClaimListed k) found.Empty e n full = absurd (cc full)
  full_before (ClaimListed k) found.BeingMade e n full = inl full
  full_before (ClaimListed k) (found.Full u) e n full = inl full
  full_before (ClaimListed k) _ e n full = absurd e
  full_before (JoinActive k told) found.Done e n full = inl full
  full_before (JoinActive k told) found.NoMemory e n full = inl full
  full_before (JoinActive k told) _ e n full = absurd e
  full_before (AskActive k) found.Yes e n full = inl full
  full_before (AskActive k) found.No e n full = inl full
  full_before (AskActive k) _ e n full = absurd e
  full_before (LeaveToMake k) found.Done e n full = inl full
  full_before (LeaveToMake k) _ e n full = absurd e
  full_before (Make k) f e n full = inl full
  full_before (Fill v) found.Done e n full = inr (λ list. refl)
  full_before (Fill v) _ e n full = absurd e
  full_before (NotifyActive v) found.Done e n full = inl full
  full_before (NotifyActive v) _ e n full = absurd e
  full_before (NotifyPassive v) found.Done e n full = inl full
  full_before (NotifyPassive v) _ e n full = absurd e
  full_before Fail found.Done e n full = absurd (cc full)
  full_before Fail _ e n full = absurd e
  full_before FailNotify found.Done e n full = inl full
  full_before FailNotify _ e n full = absurd e
  full_before (LeaveFull k v) found.Done e n full = inl full
  full_before (LeaveFull k v) _ e n full = absurd e
  full_before (RefuseActive k) found.Done e n full = inl full
  full_before (RefuseActive k) _ e n full = absurd e
  full_before (Look told) f e n full = inl full
  full_before (JoinPassive told) found.Done e n full = inl full
  full_before (JoinPassive told) found.NoMemory e n full = inl full
  full_before (JoinPassive told) _ e n full = absurd e
  full_before LookListed f e n full = inl full
  full_before AskPassive found.Yes e n full = inl full
  full_before AskPassive found.No e n full = inl full
  full_before AskPassive _ e n full = absurd e
  full_before (LeavePassive v) found.Done e n full = inl full
  full_before (LeavePassive v) _ e n full = absurd e
  full_before RefusePassive found.Done e n full = inl full
  full_before RefusePassive _ e n full = absurd e
  full_before (Try v) found.Empty e n full = absurd (cc full)
  full_before (Try v) found.BeingMade e n full = inl full
  full_before (Try v) (found.Full u) e n full = inl full
  full_before (Try v) _ e n full = absurd e
  full_before (TryFill v) found.Done e n full = inr (λ list. refl)
  full_before (TryFill v) _ e n full = absurd e
  full_before (TryNotifyActive v) found.Done e n full = inl full
  full_before (TryNotifyActive v) _ e n full = absurd e
  full_before (TryNotifyPassive v) found.Done e n full = inl full
  full_before (TryNotifyPassive v) _ e n full = absurd e
  full_before CancelMake found.Done e n full = absurd (cc full)
  full_before CancelMake _ e n full = absurd e
  full_before CancelNotify found.Done e n full = inl full
  full_before CancelNotify _ e n full = absurd e
  full_before (CancelLeave list) found.Done e n full = inl full
  full_before (CancelLeave list) _ e n full = absurd e
  full_before Abandon f e n full = inl full

  -- the party makes then exactly where it stands as a maker
  pub maker_then : (x : Place) (f : Found) → Finds i p (action_of x) f c q r → makes_at (At x) ≡ is_maker c p → makes_at (after x f) ≡ is_maker (then x f) p
  maker_then (Claim k told) found.Empty e m = sym (its_own p)
  maker_then (Claim k told) found.BeingMade e m = m
  maker_then (Claim k told) (found.Full u) e m = m
  maker_then (Claim k told) _ e m = absurd e
  maker_then (ClaimListed k) found.Empty e m = sym (its_own p)
  maker_then (ClaimListed k) found.BeingMade e m = m
  maker_then (ClaimListed k) (found.Full u) e m = m
  maker_then (ClaimListed k) _ e m = absurd e
  maker_then (JoinActive k told) found.Done e m = m
  maker_then (JoinActive k true) found.NoMemory e m = m
  maker_then (JoinActive k false) found.NoMemory e m = m
  maker_then (JoinActive k told) _ e m = absurd e
  maker_then (AskActive k) found.Yes e m = m
  maker_then (AskActive k) found.No e m = m
  maker_then (AskActive k) _ e m = absurd e
  maker_then (LeaveToMake k) found.Done e m = m
  maker_then (LeaveToMake k) _ e m = absurd e
  maker_then (Make k) (found.Made u) e m = m
  maker_then (Make k) found.Failed e m = m
  maker_then (Make k) _ e m = m
  maker_then (Fill v) found.Done e m = refl
  maker_then (Fill v) _ e m = absurd e
  maker_then (NotifyActive v) found.Done e m = m
  maker_then (NotifyActive v) _ e m = absurd e
  maker_then (NotifyPassive v) found.Done e m = m
  maker_then (NotifyPassive v) _ e m = absurd e
  maker_then Fail found.Done e m = refl
  maker_then Fail _ e m = absurd e
  maker_then FailNotify found.Done e m = m
  maker_then FailNotify _ e m = absurd e
  maker_then (LeaveFull k v) found.Done e m = m
  maker_then (LeaveFull k v) _ e m = absurd e
  maker_then (RefuseActive k) found.Done e m = m
  maker_then (RefuseActive k) _ e m = absurd e
  maker_then (Look told) (found.Full u) e m = m
  maker_then (Look told) _ e m = m
  maker_then (JoinPassive told) found.Done e m = m
  maker_then (JoinPassive true) found.NoMemory e m = m
  maker_then (JoinPassive false) found.NoMemory e m = m
  maker_then (JoinPassive told) _ e m = absurd e
  maker_then LookListed (found.Full u) e m = m
  maker_then LookListed _ e m = m
  maker_then AskPassive found.Yes e m = m
  maker_then AskPassive found.No e m = m
  maker_then AskPassive _ e m = absurd e
  maker_then (LeavePassive v) found.Done e m = m
  maker_then (LeavePassive v) _ e m = absurd e
  maker_then RefusePassive found.Done e m = m
  maker_then RefusePassive _ e m = absurd e
  maker_then (Try v) found.Empty e m = sym (its_own p)
  maker_then (Try v) found.BeingMade e m = m
  maker_then (Try v) (found.Full u) e m = m
  maker_then (Try v) _ e m = absurd e
  maker_then (TryFill v) found.Done e m = refl
  maker_then (TryFill v) _ e m = absurd e
  maker_then (TryNotifyActive v) found.Done e m = m
  maker_then (TryNotifyActive v) _ e m = absurd e
  maker_then (TryNotifyPassive v) found.Done e m = m
  maker_then (TryNotifyPassive v) _ e m = absurd e
  maker_then CancelMake found.Done e m = refl
  maker_then CancelMake _ e m = absurd e
  maker_then CancelNotify found.Done e m = m
  maker_then CancelNotify _ e m = absurd e
  maker_then (CancelLeave Active) found.Done e m = m
  maker_then (CancelLeave Active) _ e m = absurd e
  maker_then (CancelLeave Passive) found.Done e m = m
  maker_then (CancelLeave Passive) _ e m = absurd e
  maker_then Abandon f e m = m

  -- and nobody else's making begins or ends
  pub others_make : (x : Place) (f : Found) → Finds i p (action_of x) f c q r → makes_at (At x) ≡ is_maker c p → (j : ℕ) → j ≢ p → is_maker (then x f) j ≡ is_maker c j
  others_make (Claim k told) found.Empty e m j apart = another p j apart ∙ sym (ap (λ c. is_maker c j) e)
  others_make (Claim k told) found.BeingMade e m j apart = refl
  others_make (Claim k told) (found.Full u) e m j apart = refl
  others_make (Claim k told) _ e m j apart = absurd e
  others_make (ClaimListed k) found.Empty e m j apart = another p j apart ∙ sym (ap (λ c. is_maker c j) e)
  others_make (ClaimListed k) found.BeingMade e m j apart = refl
  others_make (ClaimListed k) (found.Full u) e m j apart = refl
  others_make (ClaimListed k) _ e m j apart = absurd e
  others_make (JoinActive k told) found.Done e m j apart = refl
  others_make (JoinActive k told) found.NoMemory e m j apart = refl
  others_make (JoinActive k told) _ e m j apart = absurd e
  others_make (AskActive k) found.Yes e m j apart = refl
  others_make (AskActive k) found.No e m j apart = refl
  others_make (AskActive k) _ e m j apart = absurd e
  others_make (LeaveToMake k) found.Done e m j apart = refl
  others_make (LeaveToMake k) _ e m j apart = absurd e
  others_make (Make k) f e m j apart = refl
  others_make (Fill v) found.Done e m j apart = sym (not_its c p j (sym m) apart)
  others_make (Fill v) _ e m j apart = absurd e
  others_make (NotifyActive v) found.Done e m j apart = refl
  others_make (NotifyActive v) _ e m j apart = absurd e
  others_make (NotifyPassive v) found.Done e m j apart = refl
  others_make (NotifyPassive v) _ e m j apart = absurd e
  others_make Fail found.Done e m j apart = sym (not_its c p j (sym m) apart)
  others_make Fail _ e m j apart = absurd e
  others_make FailNotify found.Done e m j apart = refl
  others_make FailNotify _ e m j apart = absurd e
  others_make (LeaveFull k v) found.Done e m j apart = refl
  others_make (LeaveFull k v) _ e m j apart = absurd e
  others_make (RefuseActive k) found.Done e m j apart = refl
  others_make (RefuseActive k) _ e m j apart = absurd e
  others_make (Look told) f e m j apart = refl
  others_make (JoinPassive told) found.Done e m j apart = refl
  others_make (JoinPassive told) found.NoMemory e m j apart = refl
  others_make (JoinPassive told) _ e m j apart = absurd e
  others_make LookListed f e m j apart = refl
  others_make AskPassive found.Yes e m j apart = refl
  others_make AskPassive found.No e m j apart = refl
  others_make AskPassive _ e m j apart = absurd e
  others_make (LeavePassive v) found.Done e m j apart = refl
  others_make (LeavePassive v) _ e m j apart = absurd e
  others_make RefusePassive found.Done e m j apart = refl
  others_make RefusePassive _ e m j apart = absurd e
  others_make (Try v) found.Empty e m j apart = another p j apart ∙ sym (ap (λ c. is_maker c j) e)
  others_make (Try v) found.BeingMade e m j apart = refl
  others_make (Try v) (found.Full u) e m j apart = refl
  others_make (Try v) _ e m j apart = absurd e
  others_make (TryFill v) found.Done e m j apart = sym (not_its c p j (sym m) apart)
  others_make (TryFill v) _ e m j apart = absurd e
  others_make (TryNotifyActive v) found.Done e m j apart = refl
  others_make (TryNotifyActive v) _ e m j apart = absurd e
  others_make (TryNotifyPassive v) found.Done e m j apart = refl
  others_make (TryNotifyPassive v) _ e m j apart = absurd e
  others_make CancelMake found.Done e m j apart = sym (not_its c p j (sym m) apart)
  others_make CancelMake _ e m j apart = absurd e
  others_make CancelNotify found.Done e m j apart = refl
  others_make CancelNotify _ e m j apart = absurd e
  others_make (CancelLeave list) found.Done e m j apart = refl
  others_make (CancelLeave list) _ e m j apart = absurd e
  others_make Abandon f e m j apart = refl

  -- what the party knows then of the cell's value is so
  pub value_then : (x : Place) (f : Found) → Finds i p (action_of x) f c q r → ((v : ℕ) → value_known (At x) ≡ Some v → c ≡ Content.Full v) → (v : ℕ) → value_known (after x f) ≡ Some v → then x f ≡ Content.Full v
  value_then (Claim k told) found.Empty e was n known = absurd (none_some known)
  value_then (Claim k told) found.BeingMade e was n known = absurd (none_some known)
  value_then (Claim k told) (found.Full u) e was n known = absurd (none_some known)
  value_then (Claim k told) _ e was n known = absurd e
  value_then (ClaimListed k) found.Empty e was n known = absurd (none_some known)
  value_then (ClaimListed k) found.BeingMade e was n known = absurd (none_some known)
  value_then (ClaimListed k) (found.Full u) e was n known = e ∙ ap Content.Full (some_eq known)
  value_then (ClaimListed k) _ e was n known = absurd e
  value_then (JoinActive k told) found.Done e was n known = absurd (none_some known)
  value_then (JoinActive k true) found.NoMemory e was n known = absurd (none_some known)
  value_then (JoinActive k false) found.NoMemory e was n known = absurd (none_some known)
  value_then (JoinActive k told) _ e was n known = absurd e
  value_then (AskActive k) found.Yes e was n known = absurd (none_some known)
  value_then (AskActive k) found.No e was n known = absurd (none_some known)
  value_then (AskActive k) _ e was n known = absurd e
  value_then (LeaveToMake k) found.Done e was n known = absurd (none_some known)
  value_then (LeaveToMake k) _ e was n known = absurd e
  value_then (Make k) (found.Made u) e was n known = absurd (none_some known)
  value_then (Make k) found.Failed e was n known = absurd (none_some known)
  value_then (Make k) _ e was n known = absurd (none_some known)
  value_then (Fill v) found.Done e was n known = ap Content.Full (some_eq known)
  value_then (Fill v) _ e was n known = absurd e
  value_then (NotifyActive v) found.Done e was n known = was n known
  value_then (NotifyActive v) _ e was n known = absurd e
  value_then (NotifyPassive v) found.Done e was n known = absurd (none_some known)
  value_then (NotifyPassive v) _ e was n known = absurd e
  value_then Fail found.Done e was n known = absurd (none_some known)
  value_then Fail _ e was n known = absurd e
  value_then FailNotify found.Done e was n known = absurd (none_some known)
  value_then FailNotify _ e was n known = absurd e
  value_then (LeaveFull k v) found.Done e was n known = absurd (none_some known)
  value_then (LeaveFull k v) _ e was n known = absurd e
  value_then (RefuseActive k) found.Done e was n known = absurd (none_some known)
  value_then (RefuseActive k) _ e was n known = absurd e
  value_then (Look told) (found.Full u) e was n known = absurd (none_some known)
  value_then (Look told) _ e was n known = absurd (none_some known)
  value_then (JoinPassive told) found.Done e was n known = absurd (none_some known)
  value_then (JoinPassive true) found.NoMemory e was n known = absurd (none_some known)
  value_then (JoinPassive false) found.NoMemory e was n known = absurd (none_some known)
  value_then (JoinPassive told) _ e was n known = absurd e
  value_then LookListed (found.Full u) e was n known = e ∙ ap Content.Full (some_eq known)
  value_then LookListed _ e was n known = absurd (none_some known)
  value_then AskPassive found.Yes e was n known = absurd (none_some known)
  value_then AskPassive found.No e was n known = absurd (none_some known)
  value_then AskPassive _ e was n known = absurd e
  value_then (LeavePassive v) found.Done e was n known = absurd (none_some known)
  value_then (LeavePassive v) _ e was n known = absurd e
  value_then RefusePassive found.Done e was n known = absurd (none_some known)
  value_then RefusePassive _ e was n known = absurd e
  value_then (Try v) found.Empty e was n known = absurd (none_some known)
  value_then (Try v) found.BeingMade e was n known = absurd (none_some known)
  value_then (Try v) (found.Full u) e was n known = absurd (none_some known)
  value_then (Try v) _ e was n known = absurd e
  value_then (TryFill v) found.Done e was n known = ap Content.Full (some_eq known)
  value_then (TryFill v) _ e was n known = absurd e
  value_then (TryNotifyActive v) found.Done e was n known = was n known
  value_then (TryNotifyActive v) _ e was n known = absurd e
  value_then (TryNotifyPassive v) found.Done e was n known = absurd (none_some known)
  value_then (TryNotifyPassive v) _ e was n known = absurd e
  value_then CancelMake found.Done e was n known = absurd (none_some known)
  value_then CancelMake _ e was n known = absurd e
  value_then CancelNotify found.Done e was n known = absurd (none_some known)
  value_then CancelNotify _ e was n known = absurd e
  value_then (CancelLeave list) found.Done e was n known = absurd (none_some known)
  value_then (CancelLeave list) _ e was n known = absurd e
  value_then Abandon f e was n known = absurd (none_some known)
