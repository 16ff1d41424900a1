-- A call that isn't decided notifies nobody, where nobody is starved and its party isn't about to be.
use Rattle.world_mutex.proofs.Prelude.{◌≡◌, ℕ, Bool, true, false, Option, Some, None, refl, arith, subst, sym, ◌∙◌, false≢true, true≢false, MarksNobody, Effect, nothing, changes, does, joins, asks, leaves, notifies, notifies_additionally, End, Step, Course, out, holding, waiting, taking, releasing, cancelling, undecided, called, counting, has_lock, is_out, Change, ListName, for_the_lock, entries_after, Mutex, course_at, none_some}
use Rattle.world_base.proofs.Marks.{joined_marks, asked_marks}
use Rattle.world_mutex.specs.machine.Conduct.{IsAllowed, IsLegal}
use Rattle.world_mutex.specs.machine.Course.{gives_up, decision, counted, is_waiting, is_counting, may_tell}
use Rattle.world_mutex.specs.machine.Effects as effects
use Rattle.world_mutex.specs.machine.Mutex.{starved}
use Rattle.world_mutex.proofs.of_machine.callers.Holders.{none_counted}

-- by where the party's call is
pub out_silent : (c : Course) → is_out c ≡ true → may_tell c ≡ false
out_silent out h = refl
out_silent _ h = absurd (false≢true h)

pub waiting_silent : (c : Course) → is_waiting c ≡ true → may_tell c ≡ false
waiting_silent (waiting starved) h = refl
waiting_silent _ h = absurd (false≢true h)

uncounted_silent : (c : Course) → decision c ≡ None → is_counting c ≡ false → counted c ≡ 0 → may_tell c ≡ false
uncounted_silent out d n z = refl
uncounted_silent holding d n z = refl
uncounted_silent (waiting starved) d n z = refl
uncounted_silent (taking undecided true listed told) d n z = absurd (omega (arith, z))
uncounted_silent (taking undecided false listed told) d n z = refl
uncounted_silent (taking called starved listed told) d n z = refl
uncounted_silent (taking counting starved listed told) d n z = absurd (true≢false n)
uncounted_silent (taking has_lock starved listed told) d n z = refl
uncounted_silent (taking (gives_up r) starved listed told) d n z = absurd (cc d)
uncounted_silent releasing d n z = absurd (cc d)
uncounted_silent (cancelling starved) d n z = refl

pub undecided_silent : (l : Mutex) (p : ℕ) → starved l ≡ 0 → decision (course_at l.courses p) ≡ None → is_counting (course_at l.courses p) ≡ false → may_tell (course_at l.courses p) ≡ false
undecided_silent l p none midway not_next = uncounted_silent (course_at l.courses p) midway not_next (none_counted l.courses p none)

-- no call is decided on that it is pending
pub never_pending : (c : Course) → decision c ≡ Some End.Pending → ⊥
never_pending out h = cc h
never_pending holding h = none_some h
never_pending (waiting starved) h = none_some h
never_pending (taking undecided starved listed told) h = none_some h
never_pending (taking called starved listed told) h = none_some h
never_pending (taking counting starved listed told) h = none_some h
never_pending (taking has_lock starved listed told) h = cc h
never_pending (taking (gives_up r) starved listed told) h = cc h
never_pending releasing h = cc h
never_pending (cancelling starved) h = cc h

-- what an effect marks
effect_marks : (p : ℕ) (l : Mutex) (d : Effect Change ListName) → IsAllowed p d l → may_tell (course_at l.courses p) ≡ false → effects.gives_up d ≡ false → MarksNobody p l.entries (entries_after p d l.entries)
effect_marks p l nothing may quiet keeps = λ q apart h. h
effect_marks p l (changes c) may quiet keeps = λ q apart h. h
effect_marks p l (does for_the_lock joins) may quiet keeps = joined_marks p l.entries
effect_marks p l (does for_the_lock asks) may quiet keeps = asked_marks p l.entries
effect_marks p l (does for_the_lock leaves) may quiet keeps = absurd (true≢false keeps)
effect_marks p l (does for_the_lock (notifies n)) may quiet keeps = absurd (false≢true (sym quiet ∙ may.1))
effect_marks p l (does for_the_lock (notifies_additionally n)) may quiet keeps = absurd may

-- and a step of a call that isn't decided
pub step_marks : (memory : Bool) (p : ℕ) (d : Option End) (s : Step) (l k : Mutex) → IsLegal memory p d s l k → d ≡ None → may_tell (course_at l.courses p) ≡ false → MarksNobody p l.entries k.entries
step_marks memory p d s l k g midway quiet =
    let M : _ → Type 0 = MarksNobody p l.entries in
    subst M (sym g.entries) (effect_marks p l g.effect g.allowed quiet (g.holds_on midway))
