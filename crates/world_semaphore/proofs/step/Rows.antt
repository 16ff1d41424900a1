-- What each place's action does, finding by finding.
use Rattle.world_semaphore.proofs.Prelude.{◌≡◌, ℕ, ◌+◌, ◌<◌, ◌≤◌, Bool, true, false, List, Option, Some, None, is_some, refl, arith, Entry, Answer, Plain, Refusal, is_refusal, Action, Found, Done, Left, Short, Available, PastLimit, NoMemory, Yes, No, Next, Place, Take, Retake, Join, Ask, Remove, Load, HandOn, PassOn, RefuseFit, Try, Lower, GiveBack, Raise, GiveAdded, FitAdded, CancelRemove, CancelLoad, FitGivenBack, Abandon, Words, action_of, next_of, position_after, Share, nothing_had, guard_of, seat_of, share_of, listed, verdict_of, a_fit, Effect, nothing, changes, does, joins, fits, takes, gives_back, forgets, raises, gives, share_after, effect_of, Finds, answer_by, gives_something_back, gives_up}
use Rattle.lock_program.specs.Refusals.{number_of}
use Rattle.world_base.specs.table.Ends.{answer_of}
use Rattle.lock_program.specs.declared.end.Next.TheVariants as next
use Rattle.world_semaphore.proofs.of_machine.stages.Taking.{taken}

-- what a call is decided on after this
abbrev pub said : Next → Option Answer
said (next.Do y) = verdict_of y
said (next.End e x) = Some (answer_of Plain e)

-- what the party has then
abbrev pub SharesSo : Effect → Share → Share → Type 0
SharesSo (changes c) s t = t ≡ share_after c s
SharesSo _ s t = t ≡ s

-- where a change is made
abbrev pub AllowedAt : Effect → Place → Words → Type 0
AllowedAt (changes (takes k)) x w = (action_of x ≡ Action.Take k) × (k ≤ w.available) × ((seat_of x).share ≡ nothing_had)
AllowedAt (changes (gives_back k)) x w = x ≡ GiveBack k
AllowedAt (changes (forgets k)) x w = x ≡ Lower k
AllowedAt (changes (raises n)) x w = (x ≡ Raise n) × (w.limit + n ≤ w.most)
AllowedAt (changes (gives n)) x w = x ≡ GiveAdded n
AllowedAt (does (fits a)) x w = ((seat_of x).debt ≡ a_fit a) × (is_some (verdict_of x) ≡ true)
AllowedAt _ x w = Unit {0}

abbrev pub is_join : Place → Bool
is_join (Join k told) = true
is_join _ = false

abbrev pub is_ask : Place → Bool
is_ask (Ask k told) = true
is_ask _ = false

-- why a call is refused
abbrev pub Refuses : Bool → Words → Place → Found → Refusal → Type 0
Refuses memory w x f Refusal.Memory = (memory ≡ false) × (is_join x ≡ true) × (effect_of (action_of x) f ≡ nothing)
Refuses memory w x f Refusal.Permits = (n : ℕ) × (x ≡ Raise n) × (w.most < w.limit + n) × (f ≡ PastLimit)
Refuses memory w x f _ = ⊥

-- why a call is decided on this
abbrev pub Reason : Bool → Words → Place → Found → Next → Answer → Type 0
Reason memory w x f n (Answer.Ready got) = (got ≡ Plain) × ((k : ℕ) × (action_of x ≡ Action.Take k) × (share_of (position_after n) ≡ guard_of k))
Reason memory w x f n (Answer.Granted got) = got ≡ Plain
Reason memory w x f n Answer.Pending = (is_ask x ≡ true) × (f ≡ No)
Reason memory w x f n (Answer.Refused m) = (r : Refusal) × (m ≡ number_of r) × Refuses memory w x f r
Reason memory w x f n _ = Unit {0}

-- what was decided is kept, and its party only gives back; what is decided now has its reason
abbrev pub Judged : Bool → Words → Place → Found → Next → Option Answer → Option Answer → Type 0
Judged memory w x f n (Some b) o = (o ≡ Some b) × (gives_something_back (effect_of (action_of x) f) ≡ true)
Judged memory w x f n None None = Unit {0}
Judged memory w x f n None (Some b) = Reason memory w x f n b

abbrev pub Room : Bool → Effect → Type 0
Room memory (does joins) = memory ≡ true
Room memory _ = Unit {0}

pub record RowBy (memory : Bool) (w : Words) (x : Place) (f : Found) (n : Next) : Type 0 where
  pub shares : SharesSo (effect_of (action_of x) f) (seat_of x).share (share_of (position_after n))
  pub allowed : AllowedAt (effect_of (action_of x) f) x w
  pub judged : Judged memory w x f n (verdict_of x) (said n)
  pub room : Room memory (effect_of (action_of x) f)
  pub held_on : gives_up (effect_of (action_of x) f) ≡ true → is_some (verdict_of x) ≡ true
  pub clear : is_refusal (answer_by n) ≡ true → listed (position_after n) ≡ 0

abbrev pub Row : Bool → Words → Place → Found → Type 0
Row memory w x f = RowBy memory w x f (next_of x f)

pub row : (memory : Bool) (p : ℕ) (w : Words) (l : List (Entry ℕ)) (x : Place) (f : Found) → Finds memory p (action_of x) f w l → Row memory w x f
row memory p w l (Take k true told) (Left a) e = record { shares = refl; allowed = (refl, omega arith, refl); judged = (refl, (k, refl, refl)); room = tt; held_on = λ h. cc; clear = λ h. cc }
row memory p w l (Take k false true) (Left a) e = taken (RowBy memory w (Take k false true) (Left a)) k a
    (record { shares = refl; allowed = (refl, omega arith, refl); judged = (refl, (k, refl, refl)); room = tt; held_on = λ h. cc; clear = λ h. cc })
    (λ none. record { shares = refl; allowed = (refl, omega arith, refl); judged = (refl, (k, refl, refl)); room = tt; held_on = λ h. cc; clear = λ h. cc })
row memory p w l (Take k false false) (Left a) e = record { shares = refl; allowed = (refl, omega arith, refl); judged = (refl, (k, refl, refl)); room = tt; held_on = λ h. cc; clear = λ h. cc }
row memory p w l (Take k true told) (Short a) e = record { shares = refl; allowed = tt; judged = tt; room = tt; held_on = λ h. cc; clear = λ h. cc }
row memory p w l (Take k false told) (Short a) e = record { shares = refl; allowed = tt; judged = tt; room = tt; held_on = λ h. cc; clear = λ h. cc }
row memory p w l (Take k there told) _ e = absurd e
row memory p w l (Retake k) (Left a) e = record { shares = refl; allowed = (refl, omega arith, refl); judged = (refl, (k, refl, refl)); room = tt; held_on = λ h. cc; clear = λ h. cc }
row memory p w l (Retake k) (Short a) e = record { shares = refl; allowed = tt; judged = tt; room = tt; held_on = λ h. cc; clear = λ h. cc }
row memory p w l (Retake k) _ e = absurd e
row memory p w l (Join k told) Done e = record { shares = refl; allowed = tt; judged = tt; room = e; held_on = λ h. cc; clear = λ h. cc }
row memory p w l (Join k (Some a)) NoMemory e = record { shares = refl; allowed = tt; judged = (Refusal.Memory, refl, (e, refl, refl)); room = tt; held_on = λ h. cc; clear = λ h. cc }
row memory p w l (Join k None) NoMemory e = record { shares = refl; allowed = tt; judged = (Refusal.Memory, refl, (e, refl, refl)); room = tt; held_on = λ h. cc; clear = λ h. cc }
row memory p w l (Join k told) _ e = absurd e
row memory p w l (Ask k told) Yes e = record { shares = refl; allowed = tt; judged = tt; room = tt; held_on = λ h. cc; clear = λ h. cc }
row memory p w l (Ask k (Some a)) No e = record { shares = refl; allowed = tt; judged = (refl, refl); room = tt; held_on = λ h. cc; clear = λ h. cc }
row memory p w l (Ask k None) No e = record { shares = refl; allowed = tt; judged = (refl, refl); room = tt; held_on = λ h. cc; clear = λ h. cc }
row memory p w l (Ask k told) _ e = absurd e
row memory p w l (Remove k more) Yes e = record { shares = refl; allowed = tt; judged = (refl, refl); room = tt; held_on = λ h. cc; clear = λ h. cc }
row memory p w l (Remove k (Some a)) No e = record { shares = refl; allowed = tt; judged = (refl, refl); room = tt; held_on = λ h. cc; clear = λ h. cc }
row memory p w l (Remove k None) No e = record { shares = refl; allowed = tt; judged = (refl, refl); room = tt; held_on = λ h. cc; clear = λ h. cc }
row memory p w l (Remove k more) _ e = absurd e
row memory p w l (Load k) (Available a) e = record { shares = refl; allowed = tt; judged = (refl, refl); room = tt; held_on = λ h. cc; clear = λ h. cc }
row memory p w l (Load k) _ e = absurd e
row memory p w l (HandOn k a) Done e = record { shares = refl; allowed = (refl, refl); judged = (refl, refl); room = tt; held_on = λ h. cc; clear = λ h. cc }
row memory p w l (HandOn k a) _ e = absurd e
row memory p w l (PassOn k a) Done e = record { shares = refl; allowed = (refl, refl); judged = (refl, refl); room = tt; held_on = λ h. cc; clear = λ h. cc }
row memory p w l (PassOn k a) _ e = absurd e
row memory p w l (RefuseFit k a) Done e = record { shares = refl; allowed = (refl, refl); judged = (refl, refl); room = tt; held_on = λ h. cc; clear = λ h. cc }
row memory p w l (RefuseFit k a) _ e = absurd e
row memory p w l (FitAdded a) Done e = record { shares = refl; allowed = (refl, refl); judged = (refl, refl); room = tt; held_on = λ h. cc; clear = λ h. cc }
row memory p w l (FitAdded a) _ e = absurd e
row memory p w l (FitGivenBack a) Done e = record { shares = refl; allowed = (refl, refl); judged = (refl, refl); room = tt; held_on = λ h. cc; clear = λ h. cc }
row memory p w l (FitGivenBack a) _ e = absurd e
row memory p w l (Try k) (Left a) e = record { shares = refl; allowed = (refl, omega arith, refl); judged = refl; room = tt; held_on = λ h. cc; clear = λ h. cc }
row memory p w l (Try k) (Short a) e = record { shares = refl; allowed = tt; judged = tt; room = tt; held_on = λ h. cc; clear = λ h. cc }
row memory p w l (Try k) _ e = absurd e
row memory p w l (Lower k) Done e = record { shares = refl; allowed = refl; judged = (refl, refl); room = tt; held_on = λ h. cc; clear = λ h. cc }
row memory p w l (Lower k) _ e = absurd e
row memory p w l (GiveBack k) (Available a) e = record { shares = refl; allowed = refl; judged = (refl, refl); room = tt; held_on = λ h. cc; clear = λ h. cc }
row memory p w l (GiveBack k) _ e = absurd e
row memory p w l (Raise n) Done e = record { shares = refl; allowed = (refl, e); judged = refl; room = tt; held_on = λ h. cc; clear = λ h. cc }
row memory p w l (Raise n) PastLimit e = record { shares = refl; allowed = tt; judged = (Refusal.Permits, refl, (n, refl, e, refl)); room = tt; held_on = λ h. cc; clear = λ h. cc }
row memory p w l (Raise n) _ e = absurd e
row memory p w l (GiveAdded n) (Available a) e = record { shares = refl; allowed = refl; judged = (refl, refl); room = tt; held_on = λ h. cc; clear = λ h. cc }
row memory p w l (GiveAdded n) _ e = absurd e
row memory p w l CancelRemove Yes e = record { shares = refl; allowed = tt; judged = (refl, refl); room = tt; held_on = λ h. cc; clear = λ h. cc }
row memory p w l CancelRemove No e = record { shares = refl; allowed = tt; judged = (refl, refl); room = tt; held_on = λ h. cc; clear = λ h. cc }
row memory p w l CancelRemove _ e = absurd e
row memory p w l CancelLoad (Available a) e = record { shares = refl; allowed = tt; judged = (refl, refl); room = tt; held_on = λ h. cc; clear = λ h. cc }
row memory p w l CancelLoad _ e = absurd e
row memory p w l Abandon Done e = record { shares = refl; allowed = tt; judged = (refl, refl); room = tt; held_on = λ h. cc; clear = λ h. cc }
row memory p w l Abandon _ e = absurd e
