-- What an action does to one of the lists, for one party.
use Rattle.world_rwlock.proofs.Prelude.{◌≡◌, ◌≢◌, ℕ, ◌+◌, ◌<◌, Bool, true, List, length, refl, arith, sym, ◌∙◌, Entry, marked_count, without, is_marked_at, is_party, entries_of, ListFunction, joins, asks, leaves, notifies, list_after, chosen, CanList, done, counted_by, own_by, others_by, notified_marked, Action, Found, Done, NoMemory, Yes, No, Joins, Asks, Leaves, Notifies, OnNoWriter, OnNoReaders}
use Rattle.world_rwlock.proofs.of_machine.laws.Steps.{in_w, out_w, in_r, out_r, taken_w, taken_r}

-- one list: an entry comes or goes, the party's own, and a mark goes on or was taken by the party
pub record Line (p came went taken : ℕ) (l m : List (Entry ℕ)) : Type 0 where
  pub size : length m + went ≡ length l + came
  pub own : entries_of p m + went ≡ entries_of p l + came
  pub others : (j : ℕ) → j ≢ p → entries_of j m ≡ entries_of j l
  pub carry : 0 < marked_count l → 0 < length m → 0 < marked_count m + taken

module _ (p : ℕ) (l m : List (Entry ℕ)) where
  stands : m ≡ l → Line p 0 0 0 l m
  stands e = rw e (record { size = refl; own = refl; others = λ j apart. refl; carry = λ some size. omega arith })

  abbrev marked_before : Bool
  marked_before = is_marked_at (is_party p) l

  -- the entries that a list function adds or takes away are its party's own
  line : (f : ListFunction) (came went taken : ℕ) → CanList p l f → m ≡ list_after p f l → length m + went ≡ length l + came → (0 < marked_count l → 0 < length m → 0 < marked_count m + taken) → Line p came went taken l m
  line f came went taken can e size carry =
      let own : entries_of p m + length l ≡ entries_of p l + length m = own_by p l m (done f can e) in
      record { size = size; own = omega arith; others = others_by p l m (done f can e); carry = carry }

  joined : Joins p Done l m → Line p 1 0 0 l m
  joined e =
      let c = counted_by p l m joins marked_before refl tt e in
      line joins 1 0 0 tt e (omega (arith, c.0)) (λ some size. omega (arith, c.1))

  asked : 0 < entries_of p l → Asks p Yes l m → Line p 0 1 1 l m
  asked some e =
      let is : m ≡ list_after p asks l = e.1 ∙ sym (chosen marked_before (without (is_party p) l) l e.0) in
      let c = counted_by p l m asks true e.0 some is in
      line asks 0 1 1 some is (omega (arith, c.0)) (λ some size. omega arith)

  left : 0 < entries_of p l → Leaves p Done l m → Line p 0 1 0 l m
  left some e =
      let c = counted_by p l m leaves marked_before refl some e in
      line leaves 0 1 0 some e (omega (arith, c.0)) (λ told more. (let now : 0 < marked_count m = c.1 more told in omega arith))

  -- a list that was notified and isn't empty has a marked entry
  pub told : Notifies Done l m → 0 < length m → 0 < marked_count m
  told e some = notified_marked l m e some

  notified : Notifies Done l m → Line p 0 0 0 l m
  notified e =
      let c = counted_by p l m (notifies 1) marked_before refl tt e in
      line (notifies 1) 0 0 0 tt e (omega (arith, c.0)) (λ some size. (let now : 0 < marked_count m = told e size in omega arith))

  pub line_w : (a : Action) (f : Found) → OnNoWriter p a f l m → (out_w a f ≡ 1 → 0 < entries_of p l) → Line p (in_w a f) (out_w a f) (taken_w a f) l m
  line_w Action.JoinNoWriter Done e some = joined e
  line_w Action.JoinNoWriter NoMemory e some = stands e
  line_w Action.JoinNoWriter _ e some = absurd e
  line_w Action.AskNoWriter Yes e some = asked (some refl) e
  line_w Action.AskNoWriter No e some = stands e.1
  line_w Action.AskNoWriter _ e some = absurd e
  line_w Action.LeaveNoWriter Done e some = left (some refl) e
  line_w Action.LeaveNoWriter _ e some = absurd e
  line_w Action.NotifyNoWriter Done e some = notified e
  line_w Action.NotifyNoWriter _ e some = absurd e
  line_w _ f e some = stands e

  pub line_r : (a : Action) (f : Found) → OnNoReaders p a f l m → (out_r a f ≡ 1 → 0 < entries_of p l) → Line p (in_r a f) (out_r a f) (taken_r a f) l m
  line_r Action.JoinNoReaders Done e some = joined e
  line_r Action.JoinNoReaders NoMemory e some = stands e
  line_r Action.JoinNoReaders _ e some = absurd e
  line_r Action.AskNoReaders Yes e some = asked (some refl) e
  line_r Action.AskNoReaders No e some = stands e.1
  line_r Action.AskNoReaders _ e some = absurd e
  line_r Action.LeaveNoReaders Done e some = left (some refl) e
  line_r Action.LeaveNoReaders _ e some = absurd e
  line_r Action.NotifyNoReaders Done e some = notified e
  line_r Action.NotifyNoReaders _ e some = absurd e
  line_r _ f e some = stands e
