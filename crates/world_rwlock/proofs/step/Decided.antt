-- A call is decided only on an answer with which such a call may end.
use Rattle.world_rwlock.proofs.Prelude.{◌≡◌, ℕ, true, false, List, Option, Some, None, refl, ap, sym, ◌∙◌, subst, inl, inr, Answer, Kind, Rest, Stage, Outside, Inside, Forgotten, Within, inside, may_end, both, some_eq, none_some, stage_at, inside_or_past, TurnCourse, decision, turn_at, End as TurnEnd, Ending, Place, Refusal, IsRwLock, RwLock, place_at, Course, polls, tries, drops, downgrades, strays, course_of, course_until, is_on_course, is_inside, goes_with, standing_of, verdict, verdict_until, refused_by, standing_at, seen}
use Rattle.world_rwlock.proofs.table.Views.{Fits}
use Rattle.world_rwlock.proofs.step.Owns as owns

-- the answers on which calls of a course are decided
abbrev FitsCourse : Course → Answer → Type 0
FitsCourse polls (Answer.Ready got) = Unit {0}
FitsCourse polls (Answer.Refused n) = Unit {0}
FitsCourse tries Answer.None = Unit {0}
FitsCourse drops Answer.GivenBack = Unit {0}
FitsCourse downgrades Answer.GivenBack = Unit {0}
FitsCourse c b = ⊥

ends_polls : (k : Kind) (r : Rest) (b : Answer) → is_on_course k r polls ≡ true → FitsCourse polls b → may_end k b ≡ true
ends_polls Kind.FirstPoll Rest.Idle (Answer.Ready got) o f = refl
ends_polls Kind.FirstPoll Rest.Idle (Answer.Refused n) o f = refl
ends_polls Kind.LaterPoll Rest.Pending (Answer.Ready got) o f = refl
ends_polls Kind.LaterPoll Rest.Pending (Answer.Refused n) o f = refl
ends_polls Kind.FirstPoll Rest.Idle _ o f = absurd f
ends_polls Kind.LaterPoll Rest.Pending _ o f = absurd f
ends_polls Kind.Try Rest.Idle b o f = absurd (cc o)
ends_polls Kind.Drop Rest.Pending b o f = absurd (cc o)
ends_polls Kind.Drop Rest.Holding b o f = absurd (cc o)
ends_polls Kind.Downgrade Rest.Holding b o f = absurd (cc o)
ends_polls Kind.Upgrade Rest.Holding b o f = absurd (cc o)
ends_polls Kind.TryUpgrade Rest.Holding b o f = absurd (cc o)
ends_polls _ _ b o f = absurd (cc o)

ends_tries : (k : Kind) (r : Rest) (b : Answer) → is_on_course k r tries ≡ true → FitsCourse tries b → may_end k b ≡ true
ends_tries Kind.Try Rest.Idle Answer.None o f = refl
ends_tries Kind.Try Rest.Idle _ o f = absurd f
ends_tries Kind.FirstPoll Rest.Idle b o f = absurd (cc o)
ends_tries Kind.LaterPoll Rest.Pending b o f = absurd (cc o)
ends_tries Kind.Drop Rest.Pending b o f = absurd (cc o)
ends_tries Kind.Drop Rest.Holding b o f = absurd (cc o)
ends_tries Kind.Downgrade Rest.Holding b o f = absurd (cc o)
ends_tries Kind.Upgrade Rest.Holding b o f = absurd (cc o)
ends_tries Kind.TryUpgrade Rest.Holding b o f = absurd (cc o)
ends_tries _ _ b o f = absurd (cc o)

ends_drops : (k : Kind) (r : Rest) (b : Answer) → is_on_course k r drops ≡ true → FitsCourse drops b → may_end k b ≡ true
ends_drops Kind.Drop Rest.Pending Answer.GivenBack o f = refl
ends_drops Kind.Drop Rest.Holding Answer.GivenBack o f = refl
ends_drops Kind.Drop Rest.Pending _ o f = absurd f
ends_drops Kind.Drop Rest.Holding _ o f = absurd f
ends_drops Kind.FirstPoll Rest.Idle b o f = absurd (cc o)
ends_drops Kind.LaterPoll Rest.Pending b o f = absurd (cc o)
ends_drops Kind.Try Rest.Idle b o f = absurd (cc o)
ends_drops Kind.Downgrade Rest.Holding b o f = absurd (cc o)
ends_drops Kind.Upgrade Rest.Holding b o f = absurd (cc o)
ends_drops Kind.TryUpgrade Rest.Holding b o f = absurd (cc o)
ends_drops _ _ b o f = absurd (cc o)

ends_downgrades : (k : Kind) (r : Rest) (b : Answer) → is_on_course k r downgrades ≡ true → FitsCourse downgrades b → may_end k b ≡ true
ends_downgrades Kind.Downgrade Rest.Holding Answer.GivenBack o f = refl
ends_downgrades Kind.Downgrade Rest.Holding _ o f = absurd f
ends_downgrades Kind.FirstPoll Rest.Idle b o f = absurd (cc o)
ends_downgrades Kind.LaterPoll Rest.Pending b o f = absurd (cc o)
ends_downgrades Kind.Try Rest.Idle b o f = absurd (cc o)
ends_downgrades Kind.Drop Rest.Pending b o f = absurd (cc o)
ends_downgrades Kind.Drop Rest.Holding b o f = absurd (cc o)
ends_downgrades Kind.Upgrade Rest.Holding b o f = absurd (cc o)
ends_downgrades Kind.TryUpgrade Rest.Holding b o f = absurd (cc o)
ends_downgrades _ _ b o f = absurd (cc o)

ends_on : (k : Kind) (r : Rest) (c : Course) (b : Answer) → is_on_course k r c ≡ true → FitsCourse c b → may_end k b ≡ true
ends_on k r polls b o f = ends_polls k r b o f
ends_on k r tries b o f = ends_tries k r b o f
ends_on k r drops b o f = ends_drops k r b o f
ends_on k r downgrades b o f = ends_downgrades k r b o f
ends_on k r _ b o f = absurd f

until_fits : (e : Ending) → FitsCourse (course_until e) (verdict_until e)
until_fits Ending.GivenBack = tt
until_fits (Ending.NotFree p) = tt
until_fits Ending.RefuseReaders = tt
until_fits Ending.RefuseMemory = tt
until_fits Ending.Reading = tt
until_fits Ending.NotifyReaders = tt

same_fits : (c : Course) (a b : Answer) → FitsCourse c a → Some a ≡ Some b → FitsCourse c b
same_fits c a b f e = let P : Answer → Type 0 = FitsCourse c in subst P (some_eq e) f

refused_fits : (o : Option TurnEnd) (b : Answer) → refused_by o ≡ Some b → FitsCourse polls b
refused_fits None b e = absurd (none_some e)
refused_fits (Some (TurnEnd.Refused r)) b e = same_fits polls _ b tt e
refused_fits (Some _) b e = absurd (none_some e)

never_strays : (k : Kind) (r : Rest) → is_on_course k r strays ≡ true → ⊥
never_strays Kind.FirstPoll Rest.Idle h = cc h
never_strays Kind.LaterPoll Rest.Pending h = cc h
never_strays Kind.Try Rest.Idle h = cc h
never_strays Kind.Drop Rest.Pending h = cc h
never_strays Kind.Drop Rest.Holding h = cc h
never_strays Kind.Downgrade Rest.Holding h = cc h
never_strays Kind.Upgrade Rest.Holding h = cc h
never_strays Kind.TryUpgrade Rest.Holding h = cc h
never_strays _ _ h = cc h

verdict_fits : (v : ℕ) (x : Place) (t : TurnCourse) (b : Answer) (k : Kind) (r : Rest) → is_inside x ≡ true → is_on_course k r (course_of x) ≡ true → verdict v x t ≡ Some b → FitsCourse (course_of x) b
verdict_fits v Place.LeaveNoWriter t b k r i o e = same_fits polls _ b tt e
verdict_fits v Place.LeaveNoReaders t b k r i o e = same_fits polls _ b tt e
verdict_fits v (Place.RefuseLeave told) t b k r i o e = same_fits polls _ b tt e
verdict_fits v (Place.RefuseNotify Refusal.Memory) t b k r i o e = same_fits polls _ b tt e
verdict_fits v (Place.RefuseNotify Refusal.Readers) t b k r i o e = same_fits polls _ b tt e
verdict_fits v (Place.RefuseNotify _) t b k r i o e = absurd (never_strays k r o)
verdict_fits v (Place.TakeTurn p) t b k r i o e = refused_fits (decision t) b e
verdict_fits v (Place.ReleaseTurn z) t b k r i o e = same_fits (course_until z) _ b (until_fits z) e
verdict_fits v (Place.ReleasingTurn z) t b k r i o e = same_fits (course_until z) _ b (until_fits z) e
verdict_fits v (Place.Unmark true) t b k r i o e = same_fits polls _ b tt e
verdict_fits v (Place.Unmark false) t b k r i o e = same_fits drops _ b tt e
verdict_fits v (Place.UnmarkNotify true) t b k r i o e = same_fits polls _ b tt e
verdict_fits v (Place.UnmarkNotify false) t b k r i o e = same_fits drops _ b tt e
verdict_fits v Place.CancelRead t b k r i o e = same_fits drops _ b tt e
verdict_fits v Place.CancelTurn t b k r i o e = same_fits drops _ b tt e
verdict_fits v Place.CancellingTurn t b k r i o e = same_fits drops _ b tt e
verdict_fits v Place.DropRead t b k r i o e = same_fits drops _ b tt e
verdict_fits v Place.DropReadNotify t b k r i o e = same_fits drops _ b tt e
verdict_fits v Place.DropUpgradable t b k r i o e = same_fits drops _ b tt e
verdict_fits v Place.DropUpgradableNotify t b k r i o e = same_fits drops _ b tt e
verdict_fits v Place.DropWrite t b k r i o e = same_fits drops _ b tt e
verdict_fits v Place.CancelAwait t b k r i o e = same_fits drops _ b tt e
verdict_fits v Place.DownNotify t b k r i o e = same_fits downgrades _ b tt e
verdict_fits v Place.DowngradeNotify t b k r i o e = same_fits downgrades _ b tt e
verdict_fits v Place.Out t b k r i o e = absurd (cc i)
verdict_fits v _ t b k r i o e = absurd (none_some e)

decided_at : (v : ℕ) (s : Stage) (x : Place) (t : TurnCourse) (u : Within) (b : Answer) → goes_with s x ≡ true → standing_at v s x t ≡ inside u (Some b) → may_end u.kind b ≡ true
decided_at v (Outside r) x t u b g e = absurd (cc e)
decided_at v Forgotten x t u b g e = absurd (cc e)
decided_at v (Inside w) x t u b g e =
    let two = both (is_inside x) (is_on_course w.kind w.was (course_of x)) g in
    let same : w ≡ u = cc e in
    let said : verdict v x t ≡ Some b = cc e in
    let P : Within → Type 0 = λ z. may_end z.kind b ≡ true in
    subst P same (ends_on w.kind w.was (course_of x) b two.1 (verdict_fits v x t b w.kind w.was two.0 two.1 said))

module _ (l : RwLock) (ss : List Stage) (opening v : ℕ) (laws : IsRwLock l) (fits : Fits l ss v) where
  pub decided : (q : ℕ) (u : Within) (b : Answer) → standing_of (seen l ss opening v) q ≡ inside u (Some b) → may_end u.kind b ≡ true
  decided q u b e =
      let stood = owns.stood l ss opening v laws fits q in
      elim (inside_or_past ss q) as (λ _. may_end u.kind b ≡ true) [
        | inl known ↦ decided_at v (stage_at ss q) (place_at l.places q) (turn_at l.turn.courses q) u b (fits.stands q known) (sym stood ∙ e)
        | inr past ↦ (let h : standing_at v Forgotten (place_at l.places q) (turn_at l.turn.courses q) ≡ inside u (Some b) = ap (λ s. standing_at v s (place_at l.places q) (turn_at l.turn.courses q)) (sym past.1) ∙ (sym stood ∙ e) in absurd (cc h))
      ]
