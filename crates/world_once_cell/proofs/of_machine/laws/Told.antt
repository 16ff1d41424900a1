-- Whom a full cell has told.
use Rattle.world_once_cell.proofs.Prelude.{◌≡◌, ◌≢◌, ℕ, ◌<◌, ◌≤◌, inl, inr, Bool, true, false, List, length, refl, ap, sym, ◌∙◌, subst, get_or-set_same, get_or-set_other, set, ℕ_discrete, Entry, entries_of, is_unmarked, never_unlisted, all_marked, unmarked_before, Inputs, Effect, nothing, changes, does, Found, ListName, Active, Passive, Place, Claim, ClaimListed, JoinActive, AskActive, LeaveToMake, Make, Fill, NotifyActive, NotifyPassive, Fail, FailNotify, LeaveFull, RefuseActive, Look, JoinPassive, LookListed, AskPassive, LeavePassive, RefusePassive, Try, TryFill, TryNotifyActive, TryNotifyPassive, CancelMake, CancelNotify, CancelLeave, Abandon, Position, Out, At, Content, action_of, in_active, in_passive_at, is_late, will_tell, Finds, effect_of, content_after, active_after, passive_after, list_of, everyone, Change, position_at, AllTold}
use Rattle.lock_event.specs.declared.event.Mark.{Mark}
use Rattle.sync_program.specs.declared.once_cell.Found.TheVariants as found
use Rattle.world_once_cell.proofs.of_machine.laws.Kept.{after}
use Rattle.world_once_cell.proofs.of_machine.laws.Contents.{full_before}

abbrev pub in_list : ListName → Position → ℕ
in_list Active x = in_active x
in_list Passive x = in_passive_at x

-- a list after an effect
abbrev pub entries_after : ListName → ℕ → Effect Change ListName → List (Entry ℕ) → List (Entry ℕ)
entries_after Active p d l = active_after p d l
entries_after Passive p d l = passive_after p d l

others_unmarked : (list : ListName) (p : ℕ) (d : Effect Change ListName) (l : List (Entry ℕ)) (j : ℕ) → j ≢ p → is_unmarked j (entries_after list p d l) ≡ true → is_unmarked j l ≡ true
others_unmarked Active p (does Active f) l j apart h = unmarked_before p f l j apart h
others_unmarked Active p (does Passive f) l j apart h = h
others_unmarked Active p nothing l j apart h = h
others_unmarked Active p (changes c) l j apart h = h
others_unmarked Passive p (does Passive f) l j apart h = unmarked_before p f l j apart h
others_unmarked Passive p (does Active f) l j apart h = h
others_unmarked Passive p nothing l j apart h = h
others_unmarked Passive p (changes c) l j apart h = h

module _ (i : Inputs) (p : ℕ) (c : Content) (q r : List (Entry ℕ)) where
  abbrev then : Place → Found → Content
  then x f = content_after p (effect_of (action_of x) f) c

  abbrev list_then : ListName → Place → Found → List (Entry ℕ)
  list_then list x f = entries_after list p (effect_of (action_of x) f) (list_of list q r)

  -- who has just told all has left nobody unmarked
  told_all : (list : ListName) (x : Place) (f : Found) → Finds i p (action_of x) f c q r → will_tell list (At x) ≡ true → will_tell list (after x f) ≡ false → length (list_of list q r) ≤ everyone → (j : ℕ) → is_unmarked j (list_then list x f) ≡ true → ⊥
  told_all Active (NotifyActive v) found.Done e before now few j h = all_marked j Mark.Additional everyone q refl few h
  told_all Active (NotifyActive v) _ e before now few j h = e
  told_all Passive (NotifyActive v) f e before now few j h = cc now
  told_all Passive (NotifyPassive v) found.Done e before now few j h = all_marked j Mark.Additional everyone r refl few h
  told_all Passive (NotifyPassive v) _ e before now few j h = e
  told_all Active (TryNotifyActive v) found.Done e before now few j h = all_marked j Mark.Additional everyone q refl few h
  told_all Active (TryNotifyActive v) _ e before now few j h = e
  told_all Passive (TryNotifyActive v) f e before now few j h = cc now
  told_all Passive (TryNotifyPassive v) found.Done e before now few j h = all_marked j Mark.Additional everyone r refl few h
  told_all Passive (TryNotifyPassive v) _ e before now few j h = e
  told_all _ _ f e before now few j h = cc before

  empty_full : (v : ℕ) → c ≡ Content.Empty → c ≡ Content.Full v → ⊥
  empty_full v e full = let never : Content.Empty ≡ Content.Full v = sym e ∙ full in cc never

  made_full : (v n : ℕ) → c ≡ Content.BeingMade n → c ≡ Content.Full v → ⊥
  made_full v n e full = let never : Content.BeingMade n ≡ Content.Full v = sym e ∙ full in cc never

  -- the party itself, once the cell is full
  own_told : (list : ListName) (x : Place) (f : Found) → Finds i p (action_of x) f c q r → (v : ℕ) → then x f ≡ Content.Full v → entries_of p (list_then list x f) ≡ in_list list (after x f) → is_unmarked p (list_then list x f) ≡ true
      → (c ≡ Content.Full v → is_unmarked p (list_of list q r) ≡ true → is_late list (At x) ≡ true) → is_late list (after x f) ≡ true
  own_told Active (Claim k told) found.Empty e n full own u was = absurd (never_unlisted p _ own u)
  own_told Active (Claim k told) (found.Full w) e n full own u was = absurd (never_unlisted p _ own u)
  own_told Active (Claim k told) _ e n full own u was = absurd (never_unlisted p _ own u)
  own_told Active (ClaimListed k) found.Empty e n full own u was = absurd (cc full)
  own_told Active (ClaimListed k) (found.Full w) e n full own u was = refl
  own_told Active (ClaimListed k) found.BeingMade e n full own u was = absurd (made_full n e.0 e.1 full)
  own_told Active (ClaimListed k) _ e n full own u was = absurd e
  own_told Active (JoinActive k true) found.Done e n full own u was = refl
  own_told Active (JoinActive k true) _ e n full own u was = absurd (never_unlisted p _ own u)
  own_told Active (JoinActive k false) found.Done e n full own u was = refl
  own_told Active (JoinActive k false) _ e n full own u was = absurd (never_unlisted p _ own u)
  own_told Active (AskActive k) found.Yes e n full own u was = absurd (never_unlisted p _ own u)
  own_told Active (AskActive k) found.No e n full own u was = (let late : is_late Active (At (AskActive k)) ≡ true = was full (rw e at u) in absurd (cc late))
  own_told Active (AskActive k) _ e n full own u was = absurd e
  own_told Active (LeaveToMake k) f e n full own u was = absurd (never_unlisted p _ own u)
  own_told Active (Make k) (found.Made w) e n full own u was = absurd (never_unlisted p _ own u)
  own_told Active (Make k) found.Failed e n full own u was = absurd (never_unlisted p _ own u)
  own_told Active (Make k) _ e n full own u was = absurd (never_unlisted p _ own u)
  own_told Active (Fill v) f e n full own u was = absurd (never_unlisted p _ own u)
  own_told Active (NotifyActive v) f e n full own u was = absurd (never_unlisted p _ own u)
  own_told Active (NotifyPassive v) f e n full own u was = absurd (never_unlisted p _ own u)
  own_told Active Fail f e n full own u was = absurd (never_unlisted p _ own u)
  own_told Active FailNotify f e n full own u was = absurd (never_unlisted p _ own u)
  own_told Active (LeaveFull k v) f e n full own u was = absurd (never_unlisted p _ own u)
  own_told Active (RefuseActive k) f e n full own u was = absurd (never_unlisted p _ own u)
  own_told Active (Look told) (found.Full w) e n full own u was = absurd (never_unlisted p _ own u)
  own_told Active (Look told) _ e n full own u was = absurd (never_unlisted p _ own u)
  own_told Active (JoinPassive true) found.Done e n full own u was = absurd (never_unlisted p _ own u)
  own_told Active (JoinPassive true) _ e n full own u was = absurd (never_unlisted p _ own u)
  own_told Active (JoinPassive false) found.Done e n full own u was = absurd (never_unlisted p _ own u)
  own_told Active (JoinPassive false) _ e n full own u was = absurd (never_unlisted p _ own u)
  own_told Active LookListed (found.Full w) e n full own u was = absurd (never_unlisted p _ own u)
  own_told Active LookListed found.Empty e n full own u was = absurd (never_unlisted p _ own u)
  own_told Active LookListed found.BeingMade e n full own u was = absurd (never_unlisted p _ own u)
  own_told Active LookListed _ e n full own u was = absurd (never_unlisted p _ own u)
  own_told Active AskPassive found.Yes e n full own u was = absurd (never_unlisted p _ own u)
  own_told Active AskPassive found.No e n full own u was = absurd (never_unlisted p _ own u)
  own_told Active AskPassive _ e n full own u was = absurd (never_unlisted p _ own u)
  own_told Active (LeavePassive v) f e n full own u was = absurd (never_unlisted p _ own u)
  own_told Active RefusePassive f e n full own u was = absurd (never_unlisted p _ own u)
  own_told Active (Try v) found.Empty e n full own u was = absurd (never_unlisted p _ own u)
  own_told Active (Try v) _ e n full own u was = absurd (never_unlisted p _ own u)
  own_told Active (TryFill v) f e n full own u was = absurd (never_unlisted p _ own u)
  own_told Active (TryNotifyActive v) f e n full own u was = absurd (never_unlisted p _ own u)
  own_told Active (TryNotifyPassive v) f e n full own u was = absurd (never_unlisted p _ own u)
  own_told Active CancelMake f e n full own u was = absurd (never_unlisted p _ own u)
  own_told Active CancelNotify f e n full own u was = absurd (never_unlisted p _ own u)
  own_told Active (CancelLeave list) f e n full own u was = absurd (never_unlisted p _ own u)
  own_told Active Abandon f e n full own u was = absurd (never_unlisted p _ own u)
  own_told Passive (Claim k told) found.Empty e n full own u was = absurd (never_unlisted p _ own u)
  own_told Passive (Claim k told) (found.Full w) e n full own u was = absurd (never_unlisted p _ own u)
  own_told Passive (Claim k told) _ e n full own u was = absurd (never_unlisted p _ own u)
  own_told Passive (ClaimListed k) found.Empty e n full own u was = absurd (never_unlisted p _ own u)
  own_told Passive (ClaimListed k) (found.Full w) e n full own u was = absurd (never_unlisted p _ own u)
  own_told Passive (ClaimListed k) found.BeingMade e n full own u was = absurd (never_unlisted p _ own u)
  own_told Passive (ClaimListed k) _ e n full own u was = absurd (never_unlisted p _ own u)
  own_told Passive (JoinActive k true) found.Done e n full own u was = absurd (never_unlisted p _ own u)
  own_told Passive (JoinActive k true) _ e n full own u was = absurd (never_unlisted p _ own u)
  own_told Passive (JoinActive k false) found.Done e n full own u was = absurd (never_unlisted p _ own u)
  own_told Passive (JoinActive k false) _ e n full own u was = absurd (never_unlisted p _ own u)
  own_told Passive (AskActive k) found.Yes e n full own u was = absurd (never_unlisted p _ own u)
  own_told Passive (AskActive k) found.No e n full own u was = absurd (never_unlisted p _ own u)
  own_told Passive (AskActive k) _ e n full own u was = absurd (never_unlisted p _ own u)
  own_told Passive (LeaveToMake k) f e n full own u was = absurd (never_unlisted p _ own u)
  own_told Passive (Make k) (found.Made w) e n full own u was = absurd (never_unlisted p _ own u)
  own_told Passive (Make k) found.Failed e n full own u was = absurd (never_unlisted p _ own u)
  own_told Passive (Make k) _ e n full own u was = absurd (never_unlisted p _ own u)
  own_told Passive (Fill v) f e n full own u was = absurd (never_unlisted p _ own u)
  own_told Passive (NotifyActive v) f e n full own u was = absurd (never_unlisted p _ own u)
  own_told Passive (NotifyPassive v) f e n full own u was = absurd (never_unlisted p _ own u)
  own_told Passive Fail f e n full own u was = absurd (never_unlisted p _ own u)
  own_told Passive FailNotify f e n full own u was = absurd (never_unlisted p _ own u)
  own_told Passive (LeaveFull k v) f e n full own u was = absurd (never_unlisted p _ own u)
  own_told Passive (RefuseActive k) f e n full own u was = absurd (never_unlisted p _ own u)
  own_told Passive (Look told) (found.Full w) e n full own u was = absurd (never_unlisted p _ own u)
  own_told Passive (Look told) _ e n full own u was = absurd (never_unlisted p _ own u)
  own_told Passive (JoinPassive true) found.Done e n full own u was = refl
  own_told Passive (JoinPassive true) _ e n full own u was = absurd (never_unlisted p _ own u)
  own_told Passive (JoinPassive false) found.Done e n full own u was = refl
  own_told Passive (JoinPassive false) _ e n full own u was = absurd (never_unlisted p _ own u)
  own_told Passive LookListed (found.Full w) e n full own u was = refl
  own_told Passive LookListed found.Empty e n full own u was = absurd (empty_full n e full)
  own_told Passive LookListed found.BeingMade e n full own u was = absurd (made_full n e.0 e.1 full)
  own_told Passive LookListed _ e n full own u was = absurd e
  own_told Passive AskPassive found.Yes e n full own u was = absurd (never_unlisted p _ own u)
  own_told Passive AskPassive found.No e n full own u was = (let late : is_late Passive (At AskPassive) ≡ true = was full (rw e at u) in absurd (cc late))
  own_told Passive AskPassive _ e n full own u was = absurd e
  own_told Passive (LeavePassive v) f e n full own u was = absurd (never_unlisted p _ own u)
  own_told Passive RefusePassive f e n full own u was = absurd (never_unlisted p _ own u)
  own_told Passive (Try v) found.Empty e n full own u was = absurd (never_unlisted p _ own u)
  own_told Passive (Try v) _ e n full own u was = absurd (never_unlisted p _ own u)
  own_told Passive (TryFill v) f e n full own u was = absurd (never_unlisted p _ own u)
  own_told Passive (TryNotifyActive v) f e n full own u was = absurd (never_unlisted p _ own u)
  own_told Passive (TryNotifyPassive v) f e n full own u was = absurd (never_unlisted p _ own u)
  own_told Passive CancelMake f e n full own u was = absurd (never_unlisted p _ own u)
  own_told Passive CancelNotify f e n full own u was = absurd (never_unlisted p _ own u)
  own_told Passive (CancelLeave list) f e n full own u was = absurd (never_unlisted p _ own u)
  own_told Passive Abandon f e n full own u was = absurd (never_unlisted p _ own u)

  module _ (list : ListName) (xs : List Position) (x : Place) (f : Found) (finds : Finds i p (action_of x) f c q r) (known : p < length xs) (late : is_late list (position_at xs p) ≡ is_late list (At x)) (tells : will_tell list (position_at xs p) ≡ will_tell list (At x)) where
    abbrev to : Position
    to = after x f

    abbrev ys : List Position
    ys = set xs p to

    landed : position_at ys p ≡ to
    landed = get_or-set_same xs p to Out known

    -- where the party isn't about to tell all, and nobody is then, nobody was
    nobody : will_tell list (At x) ≡ false → ((k : ℕ) → will_tell list (position_at ys k) ≡ false) → (k : ℕ) → will_tell list (position_at xs k) ≡ false
    nobody mine none k = elim (ℕ_discrete k p) as (λ _. will_tell list (position_at xs k) ≡ false) [
      | yes e ↦ ap (λ j. will_tell list (position_at xs j)) e ∙ (tells ∙ mine)
      | no apart ↦ ap (will_tell list) (sym (get_or-set_other xs p k to Out apart)) ∙ none k
    ]

    pub all_told : AllTold list c xs (list_of list q r) → length (list_of list q r) ≤ everyone → entries_of p (list_then list x f) ≡ in_list list to → AllTold list (then x f) ys (list_then list x f)
    all_told was few own v full none j u = elim (full_before i p c q r x f finds v full) as (λ _. is_late list (position_at ys j) ≡ true) [
      | inr about ↦ (let mine : will_tell list to ≡ false = sym (ap (will_tell list) landed) ∙ none p in let now : will_tell list to ≡ true = about list in absurd (cc (mine, now)))
      | inl before ↦ by_tell (will_tell list (At x)) refl before
    ] where
      nobody_now : will_tell list to ≡ false
      nobody_now = sym (ap (will_tell list) landed) ∙ none p

      by_tell : (b : Bool) → will_tell list (At x) ≡ b → c ≡ Content.Full v → is_late list (position_at ys j) ≡ true
      by_tell true is before = absurd (told_all list x f finds is nobody_now few j u)
      by_tell false is before = elim (ℕ_discrete j p) as (λ _. is_late list (position_at ys j) ≡ true) [
        | yes e ↦ (let P : ℕ → Type 0 = λ k. is_unmarked k (list_then list x f) ≡ true in
            let mine : is_late list to ≡ true = own_told list x f finds v full own (subst P e u) (λ h unmarked. sym late ∙ was v h (nobody is none) p unmarked) in
            ap (λ k. is_late list (position_at ys k)) e ∙ (ap (is_late list) landed ∙ mine))
        | no apart ↦ ap (is_late list) (get_or-set_other xs p j to Out apart) ∙ was v before (nobody is none) j (others_unmarked list p (effect_of (action_of x) f) (list_of list q r) j apart u)
      ]
