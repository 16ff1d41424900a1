-- A step in the inner lock, as an effect on the barrier.
use Rattle.world_barrier.proofs.Prelude.{◌≡◌, ℕ, ◌+◌, Bool, true, List, [], ◌∷◌, Option, Some, None, refl, arith, sym, Entry, mark_at, without, nat_tests, is_party, entries_of, Answer, Refusal, Effect, nothing, changes, does, joins, asks, leaves, notifies, notifies_additionally, list_after, some_eq, none_some, Course, out, holding, waiting, taking, releasing, cancelling, undecided, called, counting, has_lock, giving_up, holds, starved_there, listed_there, decision, is_out, is_holding, is_waiting, is_taking, is_releasing, is_cancelling, ListName, Lock, Wait, no_wait, counted, LockState, Change, takes, releases, starves, recovers, arrives, lock_after, arrivals_after, lock_list_after, generation_list_after, gives_back, gives_up}
use Rattle.lock_program.specs.declared.end.End.TheVariants.{Got, Pending, Refused}
use Rattle.world_mutex.specs.machine.Effects as mutex

-- the effect on the inner lock is one on the barrier
abbrev pub effect_of : Effect mutex.Change mutex.ListName → Effect Change ListName
effect_of nothing = nothing
effect_of (changes mutex.takes) = changes takes
effect_of (changes mutex.releases) = changes releases
effect_of (changes mutex.starves) = changes starves
effect_of (changes mutex.recovers) = changes recovers
effect_of (does mutex.for_the_lock f) = does Lock f

pub lock_then : (p : ℕ) (d : Effect mutex.Change mutex.ListName) (h : Option ℕ) (s : List Bool) → Path LockState (record { holder = mutex.holder_after p d h; starved = mutex.starved_after p d s }) (lock_after p (effect_of d) (record { holder = h; starved = s }))
lock_then p nothing h s = refl
lock_then p (changes mutex.takes) h s = refl
lock_then p (changes mutex.releases) h s = refl
lock_then p (changes mutex.starves) h s = refl
lock_then p (changes mutex.recovers) h s = refl
lock_then p (does mutex.for_the_lock f) h s = refl

pub entries_then : (p : ℕ) (d : Effect mutex.Change mutex.ListName) (l : List (Entry ℕ)) → mutex.entries_after p d l ≡ lock_list_after p (effect_of d) l
entries_then p nothing l = refl
entries_then p (changes mutex.takes) l = refl
entries_then p (changes mutex.releases) l = refl
entries_then p (changes mutex.starves) l = refl
entries_then p (changes mutex.recovers) l = refl
entries_then p (does mutex.for_the_lock f) l = refl

-- what becomes of a wait by its answer, and where its arrival is counted
abbrev pub ends : Answer → Wait → Wait
ends (Answer.Ready g) b = no_wait
ends a b = b

abbrev pub wait_by : Effect Change ListName → ℕ → Answer → Wait → Wait
wait_by (changes arrives) k a b = counted (k + 1)
wait_by _ k a b = ends a b

-- it does nothing else
pub record IsOfLock (d : Effect Change ListName) : Type 0 where
  pub list : (p : ℕ) (l : List (Entry ℕ)) → generation_list_after p d l ≡ l
  pub arrivals : (k : ℕ) → arrivals_after d k ≡ k
  pub ends : (k : ℕ) (a : Answer) (b : Wait) → wait_by d k a b ≡ ends a b

pub is_of_lock : (d : Effect mutex.Change mutex.ListName) → IsOfLock (effect_of d)
is_of_lock nothing = record { list = λ p l. refl; arrivals = λ k. refl; ends = λ k a b. refl }
is_of_lock (changes mutex.takes) = record { list = λ p l. refl; arrivals = λ k. refl; ends = λ k a b. refl }
is_of_lock (changes mutex.releases) = record { list = λ p l. refl; arrivals = λ k. refl; ends = λ k a b. refl }
is_of_lock (changes mutex.starves) = record { list = λ p l. refl; arrivals = λ k. refl; ends = λ k a b. refl }
is_of_lock (changes mutex.recovers) = record { list = λ p l. refl; arrivals = λ k. refl; ends = λ k a b. refl }
is_of_lock (does mutex.for_the_lock f) = record { list = λ p l. refl; arrivals = λ k. refl; ends = λ k a b. refl }

pub gives_back_so : (d : Effect mutex.Change mutex.ListName) → gives_back (effect_of d) ≡ mutex.gives_back d
gives_back_so nothing = refl
gives_back_so (changes mutex.takes) = refl
gives_back_so (changes mutex.releases) = refl
gives_back_so (changes mutex.starves) = refl
gives_back_so (changes mutex.recovers) = refl
gives_back_so (does mutex.for_the_lock f) = refl

pub gives_up_so : (d : Effect mutex.Change mutex.ListName) → gives_up (effect_of d) ≡ mutex.gives_up d
gives_up_so nothing = refl
gives_up_so (changes mutex.takes) = refl
gives_up_so (changes mutex.releases) = refl
gives_up_so (changes mutex.starves) = refl
gives_up_so (changes mutex.recovers) = refl
gives_up_so (does mutex.for_the_lock joins) = refl
gives_up_so (does mutex.for_the_lock asks) = refl
gives_up_so (does mutex.for_the_lock leaves) = refl
gives_up_so (does mutex.for_the_lock (notifies n)) = refl
gives_up_so (does mutex.for_the_lock (notifies_additionally n)) = refl

pub joins_so : (d : Effect mutex.Change mutex.ListName) (list : ListName) → effect_of d ≡ does list joins → d ≡ does mutex.for_the_lock joins
joins_so nothing list e = absurd (cc e)
joins_so (changes mutex.takes) list e = absurd (cc e)
joins_so (changes mutex.releases) list e = absurd (cc e)
joins_so (changes mutex.starves) list e = absurd (cc e)
joins_so (changes mutex.recovers) list e = absurd (cc e)
joins_so (does mutex.for_the_lock f) list e = cc

-- a party that stands in no list has none to leave
unlisted : (p : ℕ) (l : List (Entry ℕ)) → entries_of p l ≡ 0 → (mark_at (is_party p) l ≡ None) × (without (is_party p) l ≡ l)
unlisted p [] h = (refl, refl)
unlisted p (e ∷ es) h = grind (arith, nat_tests, unlisted p es)

pub leaves_none : (p : ℕ) (l : List (Entry ℕ)) → entries_of p l ≡ 0 → list_after p leaves l ≡ l
leaves_none p l h = let u = unlisted p l h in rw (u.0, u.1) refl

-- ---- by the course of a party's call

pub never_pending : (c : Course) → decision c ≡ Some Pending → ⊥
never_pending out e = cc (some_eq e)
never_pending releasing e = cc (some_eq e)
never_pending (cancelling b) e = cc (some_eq e)
never_pending (taking has_lock a b d) e = cc (some_eq e)
never_pending (taking (giving_up r) a b d) e = cc (some_eq e)
never_pending _ e = absurd (none_some e)

pub got_holds : (c : Course) → decision c ≡ Some Got → holds c ≡ 1
got_holds (taking has_lock a b d) e = refl
got_holds out e = absurd (cc (some_eq e))
got_holds releasing e = absurd (cc (some_eq e))
got_holds (cancelling b) e = absurd (cc (some_eq e))
got_holds (taking (giving_up r) a b d) e = absurd (cc (some_eq e))
got_holds _ e = absurd (none_some e)

pub refused_free : (c : Course) (r : Refusal) → decision c ≡ Some (Refused r) → holds c ≡ 0
refused_free (taking (giving_up x) a b d) r e = refl
refused_free (taking has_lock a b d) r e = absurd (cc (some_eq e))
refused_free out r e = absurd (cc (some_eq e))
refused_free releasing r e = absurd (cc (some_eq e))
refused_free (cancelling b) r e = absurd (cc (some_eq e))
refused_free _ r e = absurd (none_some e)

pub undecided_free : (c : Course) → is_taking c ≡ true → decision c ≡ None → holds c ≡ 0
undecided_free (waiting b) h e = refl
undecided_free (taking undecided a b d) h e = refl
undecided_free (taking called a b d) h e = refl
undecided_free (taking counting a b d) h e = refl
undecided_free (taking has_lock a b d) h e = absurd (none_some (sym e))
undecided_free (taking (giving_up r) a b d) h e = refl
undecided_free _ h e = absurd (cc h)

pub cancelling_free : (c : Course) → is_cancelling c ≡ true → holds c ≡ 0
cancelling_free (cancelling b) h = refl
cancelling_free _ h = absurd (cc)

pub cancelling_listed : (c : Course) → is_cancelling c ≡ true → listed_there c ≡ 1
cancelling_listed (cancelling b) h = refl
cancelling_listed _ h = absurd (cc)

-- whoever releases the lock does nothing else there
pub out_quiet : (c : Course) → is_out c ≡ true → is_releasing c ≡ true → ⊥
out_quiet out o h = cc h
out_quiet _ o h = cc o

pub waiting_quiet : (c : Course) → is_waiting c ≡ true → is_releasing c ≡ true → ⊥
waiting_quiet (waiting b) o h = cc h
waiting_quiet _ o h = cc o

pub holding_quiet : (c : Course) → is_holding c ≡ true → is_releasing c ≡ true → ⊥
holding_quiet holding o h = cc h
holding_quiet _ o h = cc o

pub taking_quiet : (c : Course) → is_taking c ≡ true → is_releasing c ≡ true → ⊥
taking_quiet (waiting b) o h = cc h
taking_quiet (taking x a b d) o h = cc h
taking_quiet _ o h = cc o

pub cancelling_quiet : (c : Course) → is_cancelling c ≡ true → is_releasing c ≡ true → ⊥
cancelling_quiet (cancelling b) o h = cc h
cancelling_quiet _ o h = cc o

pub releasing_unstarved : (c : Course) → is_releasing c ≡ true → starved_there c ≡ 0
releasing_unstarved releasing h = refl
releasing_unstarved _ h = absurd (cc)

pub releasing_unlisted : (c : Course) → is_releasing c ≡ true → listed_there c ≡ 0
releasing_unlisted releasing h = refl
releasing_unlisted _ h = absurd (cc)
