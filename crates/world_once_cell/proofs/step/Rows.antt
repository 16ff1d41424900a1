-- What each place's action does, finding by finding.
use Rattle.world_once_cell.proofs.Prelude.{◌≡◌, ◌≢◌, ℕ, ◌||◌, ◌⊎◌, inl, inr, Bool, true, false, List, Option, Some, None, is_some, refl, ap, sym, ◌∙◌, Entry, Answer, Got, Inputs, Made, Refusal, is_refusal, Effect, nothing, changes, does, joins, asks, leaves, notifies, notifies_additionally, Found, got_left, ListName, Active, Passive, Maker, Closure, Given, Next, Place, Claim, ClaimListed, JoinActive, AskActive, LeaveToMake, Make, Fill, NotifyActive, NotifyPassive, Fail, FailNotify, LeaveFull, RefuseActive, Look, JoinPassive, LookListed, AskPassive, LeavePassive, RefusePassive, Try, TryFill, TryNotifyActive, TryNotifyPassive, CancelMake, CancelNotify, CancelLeave, Abandon, Position, Out, At, Content, Empty, BeingMade, Full, action_of, next_of, sets, fills_with, failed, task_by, task_at, place_task, makes_at, in_active, in_passive_at, verdict_of, Change, begins, fills, empties, everyone, effect_of, content_after, Finds, FindsMade, answer_by, is_full, makes, given, gives_something_back, gives_up}
use Rattle.lock_program.specs.Refusals.{number_of}
use Rattle.world_base.specs.table.Ends.{answer_of}
use Rattle.sync_program.specs.declared.once_cell.Action.{Action}
use Rattle.sync_program.specs.declared.once_cell.Found.TheVariants as found
use Rattle.lock_program.specs.declared.end.Next.TheVariants as next
use Rattle.world_once_cell.proofs.of_machine.laws.Kept.{after}

-- what a call is decided on after this
abbrev pub said : Next → Option Answer
said (next.Do y) = verdict_of y
said (next.End e x) = Some (answer_of (got_left x) e)

abbrev pub is_join : Place → Bool
is_join (JoinActive k told) = true
is_join (JoinPassive told) = true
is_join _ = false

abbrev pub is_notify : Place → Bool
is_notify FailNotify = true
is_notify (RefuseActive k) = true
is_notify RefusePassive = true
is_notify CancelNotify = true
is_notify _ = false

-- a party that stands so has a future or a try
abbrev pub open_at : Position → Bool
open_at Out = false
open_at x = true

module _ (i : Inputs) (p : ℕ) (c : Content) where
  abbrev pub content_then : Place → Found → Content
  content_then x f = content_after p (effect_of (action_of x) f) c

  abbrev pub AllowedAt : Effect Change ListName → Place → Type 0
  AllowedAt nothing x = Unit {0}
  AllowedAt (changes begins) x = (c ≡ Empty) × (makes (place_task x) ≡ true)
  AllowedAt (changes (fills v)) x = (makes_at (At x) ≡ true) × (action_of x ≡ Action.Fill v)
  AllowedAt (changes empties) x = (makes_at (At x) ≡ true) × (action_of x ≡ Action.Empty)
  AllowedAt (does list joins) x = action_of x ≡ Action.Join list
  AllowedAt (does list asks) x = action_of x ≡ Action.Ask list
  AllowedAt (does list leaves) x = action_of x ≡ Action.Leave list
  AllowedAt (does list (notifies n)) x = (n ≡ 1) × (action_of x ≡ Action.Notify list)
  AllowedAt (does list (notifies_additionally n)) x = (n ≡ everyone) × (action_of x ≡ Action.NotifyAll list)

  -- why a call is refused
  abbrev pub Refuses : Place → Found → Refusal → Type 0
  Refuses x f Refusal.Memory = (i.memory ≡ false) × (is_join x ≡ true) × (effect_of (action_of x) f ≡ nothing)
  Refuses x f _ = ⊥

  -- why a call is decided on this
  abbrev pub Reason : Place → Found → Answer → Type 0
  Reason x f (Answer.Ready (Got.Value v)) = (content_then x f ≡ Full v) × ((own : ℕ) → place_task x ≢ sets own)
  Reason x f (Answer.Ready (Got.Taken own)) = (is_full c ≡ true) × (place_task x ≡ sets own)
  Reason x f (Answer.Ready Got.Failed) = (x ≡ Fail) × (f ≡ found.Done)
  Reason x f (Answer.Ready _) = ⊥
  Reason x f (Answer.Granted g) = (g ≡ Got.Plain) × (c ≡ Empty) × (content_then x f ≡ BeingMade p) × ((v : ℕ) × (x ≡ Try v))
  Reason x f Answer.Pending = ((x ≡ Make Closure) × (f ≡ found.NotYet) × (i.made ≡ Made.Pending)) ⊎ ((list : ListName) × (action_of x ≡ Action.Ask list) × (f ≡ found.No))
  Reason x f (Answer.Refused n) = (r : Refusal) × (n ≡ number_of r) × Refuses x f r
  Reason x f _ = Unit {0}

  -- what was decided is kept, and its party only gives back; what is decided now has its reason
  abbrev pub Judged : Place → Found → Option Answer → Option Answer → Type 0
  Judged x f (Some b) o = (o ≡ Some b) × (gives_something_back (effect_of (action_of x) f) ≡ true)
  Judged x f None None = Unit {0}
  Judged x f None (Some b) = Reason x f b

  abbrev pub Room : Effect Change ListName → Type 0
  Room (does list joins) = i.memory ≡ true
  Room _ = Unit {0}

  -- a party's task stays, or becomes what its maker gave
  abbrev pub TaskThen : Place → Position → Type 0
  TaskThen x to = (task_at to ≡ place_task x) ⊎ (((k : Maker) × (x ≡ Make k)) × (task_at to ≡ given (place_task x) i.made))

  pub record Row (x : Place) (f : Found) : Type 0 where
    pub allowed : AllowedAt (effect_of (action_of x) f) x
    pub judged : Judged x f (verdict_of x) (said (next_of x f))
    pub room : Room (effect_of (action_of x) f)
    pub held_on : gives_up (effect_of (action_of x) f) ≡ true → is_some (verdict_of x) || makes_at (At x) ≡ true
    pub clear : is_refusal (answer_by (next_of x f)) ≡ true → (in_active (after x f) ≡ 0) × (in_passive_at (after x f) ≡ 0) × (makes_at (after x f) ≡ false)
    pub task : open_at (after x f) ≡ true → TaskThen x (after x f)
    pub filled : (v : ℕ) → c ≡ BeingMade p → content_then x f ≡ Full v → (said (next_of x f) ≡ Some (Answer.Ready (Got.Value v))) ⊎ (said (next_of x f) ≡ Some (Answer.Granted Got.Plain))
    pub emptied : c ≡ BeingMade p → content_then x f ≡ Empty → (x ≡ CancelMake) ⊎ (said (next_of x f) ≡ Some (Answer.Ready Got.Failed))

  no_fill : (v : ℕ) → c ≡ BeingMade p → c ≡ Full v → ⊥
  no_fill v m full = let never : BeingMade p ≡ Full v = sym m ∙ full in cc never

  no_empty : c ≡ BeingMade p → c ≡ Empty → ⊥
  no_empty m empty = let never : BeingMade p ≡ Empty = sym m ∙ empty in cc never

  -- what the maker of an initialisation gave
  pub gave : (k : Maker) (m : Made) (u : ℕ) → FindsMade k m (found.Made u) → fills_with u ≡ given (task_by k) m
  gave (Given v) m u e = cc e
  gave Closure Made.Pending u e = absurd (cc e)
  gave Closure (Made.Value v) u e = cc e
  gave Closure Made.Fail u e = absurd (cc e)

  pub gave_failure : (k : Maker) (m : Made) → FindsMade k m found.Failed → failed ≡ given (task_by k) m
  gave_failure (Given v) m e = absurd (cc e)
  gave_failure Closure Made.Pending e = absurd (cc e)
  gave_failure Closure (Made.Value v) e = absurd (cc e)
  gave_failure Closure Made.Fail e = refl

  pub pends : (k : Maker) (m : Made) → FindsMade k m found.NotYet → (k ≡ Closure) × (m ≡ Made.Pending)
  pends (Given v) m e = absurd (cc e)
  pends Closure Made.Pending e = (refl, refl)
  pends Closure (Made.Value v) e = absurd (cc e)
  pends Closure Made.Fail e = absurd (cc e)

  unexpected : (k : Maker) (m : Made) (f : Found) → FindsMade k m f → (f ≡ found.NotYet) ⊎ (((u : ℕ) × (f ≡ found.Made u)) ⊎ (f ≡ found.Failed))
  unexpected (Given v) m f e = inr (inl (v, e))
  unexpected Closure Made.Pending f e = inl e
  unexpected Closure (Made.Value v) f e = inr (inl (v, e))
  unexpected Closure Made.Fail f e = inr (inr e)

  pub never_found : (k : Maker) (m : Made) (f : Found) → FindsMade k m f → (f ≡ found.NotYet → ⊥) → ((u : ℕ) → f ≡ found.Made u → ⊥) → (f ≡ found.Failed → ⊥) → ⊥
  never_found k m f e a b d = elim (unexpected k m f e) as (λ _. ⊥) [ inl x ↦ a x | inr y ↦ elim y as (λ _. ⊥) [ inl z ↦ b z.0 z.1 | inr z ↦ d z ] ]

  pub row : (q r : List (Entry ℕ)) (x : Place) (f : Found) → Finds i p (action_of x) f c q r → Row x f
  row q r (Claim Closure true) found.Empty e = record { allowed = (e, refl); judged = tt; room = tt; held_on = λ h. cc; clear = λ h. cc; task = λ o. inl refl; filled = λ n m full. absurd (cc full); emptied = λ m empty. absurd (cc empty) }
  row q r (Claim Closure true) found.BeingMade e = record { allowed = tt; judged = tt; room = tt; held_on = λ h. cc; clear = λ h. cc; task = λ o. inl refl; filled = λ n m full. absurd (no_fill n m full); emptied = λ m empty. absurd (no_empty m empty) }
  row q r (Claim Closure true) (found.Full u) e = record { allowed = tt; judged = (e, λ own s. cc s); room = tt; held_on = λ h. cc; clear = λ h. cc; task = λ o. absurd (cc o); filled = λ n m full. absurd (no_fill n m full); emptied = λ m empty. absurd (no_empty m empty) }
  row q r (Claim Closure true) _ e = absurd e
  row q r (Claim (Given o) true) found.Empty e = record { allowed = (e, refl); judged = tt; room = tt; held_on = λ h. cc; clear = λ h. cc; task = λ o. inl refl; filled = λ n m full. absurd (cc full); emptied = λ m empty. absurd (cc empty) }
  row q r (Claim (Given o) true) found.BeingMade e = record { allowed = tt; judged = tt; room = tt; held_on = λ h. cc; clear = λ h. cc; task = λ o. inl refl; filled = λ n m full. absurd (no_fill n m full); emptied = λ m empty. absurd (no_empty m empty) }
  row q r (Claim (Given o) true) (found.Full u) e = record { allowed = tt; judged = (ap is_full e, refl); room = tt; held_on = λ h. cc; clear = λ h. cc; task = λ o. absurd (cc o); filled = λ n m full. absurd (no_fill n m full); emptied = λ m empty. absurd (no_empty m empty) }
  row q r (Claim (Given o) true) _ e = absurd e
  row q r (Claim Closure false) found.Empty e = record { allowed = (e, refl); judged = tt; room = tt; held_on = λ h. cc; clear = λ h. cc; task = λ o. inl refl; filled = λ n m full. absurd (cc full); emptied = λ m empty. absurd (cc empty) }
  row q r (Claim Closure false) found.BeingMade e = record { allowed = tt; judged = tt; room = tt; held_on = λ h. cc; clear = λ h. cc; task = λ o. inl refl; filled = λ n m full. absurd (no_fill n m full); emptied = λ m empty. absurd (no_empty m empty) }
  row q r (Claim Closure false) (found.Full u) e = record { allowed = tt; judged = (e, λ own s. cc s); room = tt; held_on = λ h. cc; clear = λ h. cc; task = λ o. absurd (cc o); filled = λ n m full. absurd (no_fill n m full); emptied = λ m empty. absurd (no_empty m empty) }
  row q r (Claim Closure false) _ e = absurd e
  row q r (Claim (Given o) false) found.Empty e = record { allowed = (e, refl); judged = tt; room = tt; held_on = λ h. cc; clear = λ h. cc; task = λ o. inl refl; filled = λ n m full. absurd (cc full); emptied = λ m empty. absurd (cc empty) }
  row q r (Claim (Given o) false) found.BeingMade e = record { allowed = tt; judged = tt; room = tt; held_on = λ h. cc; clear = λ h. cc; task = λ o. inl refl; filled = λ n m full. absurd (no_fill n m full); emptied = λ m empty. absurd (no_empty m empty) }
  row q r (Claim (Given o) false) (found.Full u) e = record { allowed = tt; judged = (ap is_full e, refl); room = tt; held_on = λ h. cc; clear = λ h. cc; task = λ o. absurd (cc o); filled = λ n m full. absurd (no_fill n m full); emptied = λ m empty. absurd (no_empty m empty) }
  row q r (Claim (Given o) false) _ e = absurd e
  row q r (ClaimListed Closure) found.Empty e = record { allowed = (e, refl); judged = tt; room = tt; held_on = λ h. cc; clear = λ h. cc; task = λ o. inl refl; filled = λ n m full. absurd (cc full); emptied = λ m empty. absurd (cc empty) }
  row q r (ClaimListed Closure) found.BeingMade e = record { allowed = tt; judged = tt; room = tt; held_on = λ h. cc; clear = λ h. cc; task = λ o. inl refl; filled = λ n m full. absurd (no_fill n m full); emptied = λ m empty. absurd (no_empty m empty) }
  row q r (ClaimListed Closure) (found.Full u) e = record { allowed = tt; judged = (e, λ own s. cc s); room = tt; held_on = λ h. cc; clear = λ h. cc; task = λ o. inl refl; filled = λ n m full. absurd (no_fill n m full); emptied = λ m empty. absurd (no_empty m empty) }
  row q r (ClaimListed Closure) _ e = absurd e
  row q r (ClaimListed (Given o)) found.Empty e = record { allowed = (e, refl); judged = tt; room = tt; held_on = λ h. cc; clear = λ h. cc; task = λ o. inl refl; filled = λ n m full. absurd (cc full); emptied = λ m empty. absurd (cc empty) }
  row q r (ClaimListed (Given o)) found.BeingMade e = record { allowed = tt; judged = tt; room = tt; held_on = λ h. cc; clear = λ h. cc; task = λ o. inl refl; filled = λ n m full. absurd (no_fill n m full); emptied = λ m empty. absurd (no_empty m empty) }
  row q r (ClaimListed (Given o)) (found.Full u) e = record { allowed = tt; judged = (ap is_full e, refl); room = tt; held_on = λ h. cc; clear = λ h. cc; task = λ o. inl refl; filled = λ n m full. absurd (no_fill n m full); emptied = λ m empty. absurd (no_empty m empty) }
  row q r (ClaimListed (Given o)) _ e = absurd e
  row q r (JoinActive k told) found.Done e = record { allowed = refl; judged = tt; room = e; held_on = λ h. cc; clear = λ h. cc; task = λ o. inl refl; filled = λ n m full. absurd (no_fill n m full); emptied = λ m empty. absurd (no_empty m empty) }
  row q r (JoinActive k true) found.NoMemory e = record { allowed = tt; judged = (Refusal.Memory, refl, (e, refl, refl)); room = tt; held_on = λ h. cc; clear = λ h. cc; task = λ o. inl refl; filled = λ n m full. absurd (no_fill n m full); emptied = λ m empty. absurd (no_empty m empty) }
  row q r (JoinActive k false) found.NoMemory e = record { allowed = tt; judged = (Refusal.Memory, refl, (e, refl, refl)); room = tt; held_on = λ h. cc; clear = λ h. (refl, refl, refl); task = λ o. inl refl; filled = λ n m full. absurd (no_fill n m full); emptied = λ m empty. absurd (no_empty m empty) }
  row q r (JoinActive k told) _ e = absurd e
  row q r (AskActive k) found.Yes e = record { allowed = refl; judged = tt; room = tt; held_on = λ h. cc; clear = λ h. cc; task = λ o. inl refl; filled = λ n m full. absurd (no_fill n m full); emptied = λ m empty. absurd (no_empty m empty) }
  row q r (AskActive k) found.No e = record { allowed = refl; judged = inr (Active, refl, refl); room = tt; held_on = λ h. cc; clear = λ h. cc; task = λ o. inl refl; filled = λ n m full. absurd (no_fill n m full); emptied = λ m empty. absurd (no_empty m empty) }
  row q r (AskActive k) _ e = absurd e
  row q r (LeaveToMake k) found.Done e = record { allowed = refl; judged = tt; room = tt; held_on = λ h. refl; clear = λ h. cc; task = λ o. inl refl; filled = λ n m full. absurd (no_fill n m full); emptied = λ m empty. absurd (no_empty m empty) }
  row q r (LeaveToMake k) _ e = absurd e
  row q r (Make k) (found.Made u) e = record { allowed = tt; judged = tt; room = tt; held_on = λ h. cc; clear = λ h. cc; task = λ o. inr ((k, refl), gave k i.made u e); filled = λ n m full. absurd (no_fill n m full); emptied = λ m empty. absurd (no_empty m empty) }
  row q r (Make k) found.Failed e = record { allowed = tt; judged = tt; room = tt; held_on = λ h. cc; clear = λ h. cc; task = λ o. inr ((k, refl), gave_failure k i.made e); filled = λ n m full. absurd (no_fill n m full); emptied = λ m empty. absurd (no_empty m empty) }
  row q r (Make Closure) found.NotYet e = record { allowed = tt; judged = inl (refl, refl, (pends Closure i.made e).1); room = tt; held_on = λ h. cc; clear = λ h. cc; task = λ o. inl refl; filled = λ n m full. absurd (no_fill n m full); emptied = λ m empty. absurd (no_empty m empty) }
  row q r (Make (Given o)) found.NotYet e = absurd (cc e)
  row q r (Make k) _ e = absurd (never_found k i.made _ e (λ x. cc x) (λ u x. cc x) (λ x. cc x))
  row q r (Fill v) found.Done e = record { allowed = (refl, refl); judged = (refl, λ own s. cc s); room = tt; held_on = λ h. cc; clear = λ h. cc; task = λ o. inl refl; filled = λ n m full. inl (cc full); emptied = λ m empty. absurd (cc empty) }
  row q r (Fill v) _ e = absurd e
  row q r (NotifyActive v) found.Done e = record { allowed = (refl, refl); judged = (refl, refl); room = tt; held_on = λ h. cc; clear = λ h. cc; task = λ o. inl refl; filled = λ n m full. absurd (no_fill n m full); emptied = λ m empty. absurd (no_empty m empty) }
  row q r (NotifyActive v) _ e = absurd e
  row q r (TryNotifyActive v) found.Done e = record { allowed = (refl, refl); judged = (refl, refl); room = tt; held_on = λ h. cc; clear = λ h. cc; task = λ o. inl refl; filled = λ n m full. absurd (no_fill n m full); emptied = λ m empty. absurd (no_empty m empty) }
  row q r (TryNotifyActive v) _ e = absurd e
  row q r (NotifyPassive v) found.Done e = record { allowed = (refl, refl); judged = (refl, refl); room = tt; held_on = λ h. cc; clear = λ h. cc; task = λ o. absurd (cc o); filled = λ n m full. absurd (no_fill n m full); emptied = λ m empty. absurd (no_empty m empty) }
  row q r (NotifyPassive v) _ e = absurd e
  row q r (TryNotifyPassive v) found.Done e = record { allowed = (refl, refl); judged = (refl, refl); room = tt; held_on = λ h. cc; clear = λ h. cc; task = λ o. absurd (cc o); filled = λ n m full. absurd (no_fill n m full); emptied = λ m empty. absurd (no_empty m empty) }
  row q r (TryNotifyPassive v) _ e = absurd e
  row q r Fail found.Done e = record { allowed = (refl, refl); judged = (refl, refl); room = tt; held_on = λ h. refl; clear = λ h. cc; task = λ o. inl refl; filled = λ n m full. absurd (cc full); emptied = λ m empty. inr refl }
  row q r Fail _ e = absurd e
  row q r FailNotify found.Done e = record { allowed = (refl, refl); judged = (refl, refl); room = tt; held_on = λ h. cc; clear = λ h. cc; task = λ o. absurd (cc o); filled = λ n m full. absurd (no_fill n m full); emptied = λ m empty. absurd (no_empty m empty) }
  row q r FailNotify _ e = absurd e
  row q r (LeaveFull k v) found.Done e = record { allowed = refl; judged = (refl, refl); room = tt; held_on = λ h. refl; clear = λ h. cc; task = λ o. absurd (cc o); filled = λ n m full. absurd (no_fill n m full); emptied = λ m empty. absurd (no_empty m empty) }
  row q r (LeaveFull k v) _ e = absurd e
  row q r (RefuseActive k) found.Done e = record { allowed = (refl, refl); judged = (refl, refl); room = tt; held_on = λ h. cc; clear = λ h. (refl, refl, refl); task = λ o. inl refl; filled = λ n m full. absurd (no_fill n m full); emptied = λ m empty. absurd (no_empty m empty) }
  row q r (RefuseActive k) _ e = absurd e
  row q r (Look true) (found.Full u) e = record { allowed = tt; judged = (e, λ own s. cc s); room = tt; held_on = λ h. cc; clear = λ h. cc; task = λ o. absurd (cc o); filled = λ n m full. absurd (no_fill n m full); emptied = λ m empty. absurd (no_empty m empty) }
  row q r (Look true) found.Empty e = record { allowed = tt; judged = tt; room = tt; held_on = λ h. cc; clear = λ h. cc; task = λ o. inl refl; filled = λ n m full. absurd (no_fill n m full); emptied = λ m empty. absurd (no_empty m empty) }
  row q r (Look true) found.BeingMade e = record { allowed = tt; judged = tt; room = tt; held_on = λ h. cc; clear = λ h. cc; task = λ o. inl refl; filled = λ n m full. absurd (no_fill n m full); emptied = λ m empty. absurd (no_empty m empty) }
  row q r (Look true) _ e = absurd e
  row q r (Look false) (found.Full u) e = record { allowed = tt; judged = (e, λ own s. cc s); room = tt; held_on = λ h. cc; clear = λ h. cc; task = λ o. absurd (cc o); filled = λ n m full. absurd (no_fill n m full); emptied = λ m empty. absurd (no_empty m empty) }
  row q r (Look false) found.Empty e = record { allowed = tt; judged = tt; room = tt; held_on = λ h. cc; clear = λ h. cc; task = λ o. inl refl; filled = λ n m full. absurd (no_fill n m full); emptied = λ m empty. absurd (no_empty m empty) }
  row q r (Look false) found.BeingMade e = record { allowed = tt; judged = tt; room = tt; held_on = λ h. cc; clear = λ h. cc; task = λ o. inl refl; filled = λ n m full. absurd (no_fill n m full); emptied = λ m empty. absurd (no_empty m empty) }
  row q r (Look false) _ e = absurd e
  row q r (JoinPassive told) found.Done e = record { allowed = refl; judged = tt; room = e; held_on = λ h. cc; clear = λ h. cc; task = λ o. inl refl; filled = λ n m full. absurd (no_fill n m full); emptied = λ m empty. absurd (no_empty m empty) }
  row q r (JoinPassive true) found.NoMemory e = record { allowed = tt; judged = (Refusal.Memory, refl, (e, refl, refl)); room = tt; held_on = λ h. cc; clear = λ h. cc; task = λ o. inl refl; filled = λ n m full. absurd (no_fill n m full); emptied = λ m empty. absurd (no_empty m empty) }
  row q r (JoinPassive false) found.NoMemory e = record { allowed = tt; judged = (Refusal.Memory, refl, (e, refl, refl)); room = tt; held_on = λ h. cc; clear = λ h. (refl, refl, refl); task = λ o. inl refl; filled = λ n m full. absurd (no_fill n m full); emptied = λ m empty. absurd (no_empty m empty) }
  row q r (JoinPassive told) _ e = absurd e
  row q r LookListed (found.Full u) e = record { allowed = tt; judged = (e, λ own s. cc s); room = tt; held_on = λ h. cc; clear = λ h. cc; task = λ o. inl refl; filled = λ n m full. absurd (no_fill n m full); emptied = λ m empty. absurd (no_empty m empty) }
  row q r LookListed found.Empty e = record { allowed = tt; judged = tt; room = tt; held_on = λ h. cc; clear = λ h. cc; task = λ o. inl refl; filled = λ n m full. absurd (no_fill n m full); emptied = λ m empty. absurd (no_empty m empty) }
  row q r LookListed found.BeingMade e = record { allowed = tt; judged = tt; room = tt; held_on = λ h. cc; clear = λ h. cc; task = λ o. inl refl; filled = λ n m full. absurd (no_fill n m full); emptied = λ m empty. absurd (no_empty m empty) }
  row q r LookListed _ e = absurd e
  row q r AskPassive found.Yes e = record { allowed = refl; judged = tt; room = tt; held_on = λ h. cc; clear = λ h. cc; task = λ o. inl refl; filled = λ n m full. absurd (no_fill n m full); emptied = λ m empty. absurd (no_empty m empty) }
  row q r AskPassive found.No e = record { allowed = refl; judged = inr (Passive, refl, refl); room = tt; held_on = λ h. cc; clear = λ h. cc; task = λ o. inl refl; filled = λ n m full. absurd (no_fill n m full); emptied = λ m empty. absurd (no_empty m empty) }
  row q r AskPassive _ e = absurd e
  row q r (LeavePassive v) found.Done e = record { allowed = refl; judged = (refl, refl); room = tt; held_on = λ h. refl; clear = λ h. cc; task = λ o. absurd (cc o); filled = λ n m full. absurd (no_fill n m full); emptied = λ m empty. absurd (no_empty m empty) }
  row q r (LeavePassive v) _ e = absurd e
  row q r RefusePassive found.Done e = record { allowed = (refl, refl); judged = (refl, refl); room = tt; held_on = λ h. cc; clear = λ h. (refl, refl, refl); task = λ o. inl refl; filled = λ n m full. absurd (no_fill n m full); emptied = λ m empty. absurd (no_empty m empty) }
  row q r RefusePassive _ e = absurd e
  row q r (Try v) found.Empty e = record { allowed = (e, refl); judged = (refl, e, refl, (v, refl)); room = tt; held_on = λ h. cc; clear = λ h. cc; task = λ o. inl refl; filled = λ n m full. absurd (cc full); emptied = λ m empty. absurd (cc empty) }
  row q r (Try v) found.BeingMade e = record { allowed = tt; judged = tt; room = tt; held_on = λ h. cc; clear = λ h. cc; task = λ o. absurd (cc o); filled = λ n m full. absurd (no_fill n m full); emptied = λ m empty. absurd (no_empty m empty) }
  row q r (Try v) (found.Full u) e = record { allowed = tt; judged = tt; room = tt; held_on = λ h. cc; clear = λ h. cc; task = λ o. absurd (cc o); filled = λ n m full. absurd (no_fill n m full); emptied = λ m empty. absurd (no_empty m empty) }
  row q r (Try v) _ e = absurd e
  row q r (TryFill v) found.Done e = record { allowed = (refl, refl); judged = (refl, refl); room = tt; held_on = λ h. cc; clear = λ h. cc; task = λ o. inl refl; filled = λ n m full. inr refl; emptied = λ m empty. absurd (cc empty) }
  row q r (TryFill v) _ e = absurd e
  row q r CancelMake found.Done e = record { allowed = (refl, refl); judged = (refl, refl); room = tt; held_on = λ h. refl; clear = λ h. cc; task = λ o. inl refl; filled = λ n m full. absurd (cc full); emptied = λ m empty. inl refl }
  row q r CancelMake _ e = absurd e
  row q r CancelNotify found.Done e = record { allowed = (refl, refl); judged = (refl, refl); room = tt; held_on = λ h. cc; clear = λ h. cc; task = λ o. absurd (cc o); filled = λ n m full. absurd (no_fill n m full); emptied = λ m empty. absurd (no_empty m empty) }
  row q r CancelNotify _ e = absurd e
  row q r (CancelLeave Active) found.Done e = record { allowed = refl; judged = (refl, refl); room = tt; held_on = λ h. refl; clear = λ h. cc; task = λ o. absurd (cc o); filled = λ n m full. absurd (no_fill n m full); emptied = λ m empty. absurd (no_empty m empty) }
  row q r (CancelLeave Active) _ e = absurd e
  row q r (CancelLeave Passive) found.Done e = record { allowed = refl; judged = (refl, refl); room = tt; held_on = λ h. refl; clear = λ h. cc; task = λ o. absurd (cc o); filled = λ n m full. absurd (no_fill n m full); emptied = λ m empty. absurd (no_empty m empty) }
  row q r (CancelLeave Passive) _ e = absurd e
  row q r Abandon found.Done e = record { allowed = tt; judged = (refl, refl); room = tt; held_on = λ h. cc; clear = λ h. cc; task = λ o. absurd (cc o); filled = λ n m full. absurd (no_fill n m full); emptied = λ m empty. absurd (no_empty m empty) }
  row q r Abandon _ e = absurd e
