-- Who is due, and who may notify, by the place at which a party stands.
use Rattle.world_mutex.proofs.Prelude.{◌≡◌, ℕ, ◌<◌, true, false, refl, arith, sym, ◌∙◌, is_outside_stage, Kind, Rest, Stage, Outside, Inside, Forgotten, Within, false≢true, Place, listed, is_resting, is_counted, is_within, goes_with, is_held, is_due}
use Rattle.world_mutex.specs.machine.Courses as way
use Rattle.world_mutex.specs.Legal.{may_tell}
use Rattle.world_mutex.proofs.step.Here.{standing_at}

-- outside every call a party rests
pub resting : (s : Stage) (x : Place) → goes_with s x ≡ true → is_outside_stage s ≡ true → is_resting x ≡ true
resting s Place.Out g o = refl
resting s Place.Holding g o = refl
resting s Place.Ask g o = refl
resting s Place.AskStarved g o = refl
resting (Outside Rest.Idle) _ g o = absurd (cc g)
resting (Outside Rest.Pending) _ g o = absurd (cc g)
resting (Outside Rest.Holding) _ g o = absurd (cc g)
resting (Outside Rest.Finished) _ g o = absurd (cc g)
resting (Inside w) _ g o = absurd (cc o)
resting Forgotten _ g o = absurd (cc g)

-- and neither tells nor is due
rest_silent : (x : Place) → is_resting x ≡ true → way.may_tell x ≡ false
rest_silent Place.Out h = refl
rest_silent Place.Holding h = refl
rest_silent Place.Ask h = refl
rest_silent Place.AskStarved h = refl
rest_silent _ h = absurd (cc h)

rest_undue : (x : Place) → is_resting x ≡ true → way.is_due x ≡ false
rest_undue Place.Out h = refl
rest_undue Place.Holding h = refl
rest_undue Place.Ask h = refl
rest_undue Place.AskStarved h = refl
rest_undue _ h = absurd (cc h)

-- who rests in the list waits there
pub rest_waits : (x : Place) → is_resting x ≡ true → 0 < listed x → way.is_waiting x ≡ true
rest_waits Place.Ask h some = refl
rest_waits Place.AskStarved h some = refl
rest_waits Place.Out h some = absurd (omega arith)
rest_waits Place.Holding h some = absurd (omega arith)
rest_waits _ h some = absurd (cc h)

-- the lock is given back inside the drop of a guard alone
held_so : (k : Kind) (r : Rest) → is_within k r Place.ReleaseNotify ≡ true → is_held r ≡ true
held_so Kind.Drop Rest.Holding h = refl
held_so Kind.Drop Rest.Pending h = absurd (cc h)
held_so Kind.FirstPoll Rest.Idle h = absurd (cc h)
held_so Kind.LaterPoll Rest.Pending h = absurd (cc h)
held_so _ _ h = absurd (cc h)

tells_inside : (v : ℕ) (w : Within) (x : Place) → is_within w.kind w.was x ≡ true → way.may_tell x ≡ true → may_tell (standing_at v (Inside w) x) (is_counted x) (listed x) ≡ true
tells_inside v w Place.PassOn g h = refl
tells_inside v w Place.PassOnListed g h = refl
tells_inside v w Place.RefuseNotifyMemory g h = refl
tells_inside v w Place.RefuseNotifyStarved g h = refl
tells_inside v w Place.ReleaseNotify g h = held_so w.kind w.was g
tells_inside v w _ g h = absurd (cc h)

pub tells_at : (v : ℕ) (s : Stage) (x : Place) → goes_with s x ≡ true → way.may_tell x ≡ true → may_tell (standing_at v s x) (is_counted x) (listed x) ≡ true
tells_at v (Inside w) x g h = tells_inside v w x g h
tells_at v (Outside r) x g h = absurd (false≢true (sym (rest_silent x (resting (Outside r) x g refl)) ∙ h))
tells_at v Forgotten x g h = absurd (false≢true (sym (rest_silent x (resting Forgotten x g refl)) ∙ h))

due_inside : (v : ℕ) (w : Within) (x : Place) → is_within w.kind w.was x ≡ true → way.is_due x ≡ true → is_due (standing_at v (Inside w) x) ≡ true
due_inside v w Place.Retry g h = refl
due_inside v w Place.PassOn g h = refl
due_inside v w (Place.Count false told) g h = refl
due_inside v w (Place.Count true told) g h = absurd (cc h)
due_inside v w Place.JoinStarved g h = refl
due_inside v w Place.LookAlone g h = refl
due_inside v w Place.PassOnListed g h = refl
due_inside v w Place.Seize g h = refl
due_inside v w Place.RefuseUncount g h = refl
due_inside v w Place.RefuseNotifyMemory g h = refl
due_inside v w Place.RefuseNotifyStarved g h = refl
due_inside v w Place.ReleaseNotify g h = held_so w.kind w.was g
due_inside v w _ g h = absurd (cc h)

pub due_at : (v : ℕ) (s : Stage) (x : Place) → goes_with s x ≡ true → way.is_due x ≡ true → is_due (standing_at v s x) ≡ true
due_at v (Inside w) x g h = due_inside v w x g h
due_at v (Outside r) x g h = absurd (false≢true (sym (rest_undue x (resting (Outside r) x g refl)) ∙ h))
due_at v Forgotten x g h = absurd (false≢true (sym (rest_undue x (resting Forgotten x g refl)) ∙ h))

-- unless it is starved, whoever is due stands in no list
pub due_unlisted : (x : Place) → way.is_due x ≡ true → is_counted x ≡ false → listed x ≡ 0
due_unlisted Place.Retry h e = refl
due_unlisted Place.PassOn h e = refl
due_unlisted (Place.Count false told) h e = refl
due_unlisted (Place.Count true told) h e = absurd (cc h)
due_unlisted Place.JoinStarved h e = refl
due_unlisted Place.LookAlone h e = absurd (cc e)
due_unlisted Place.PassOnListed h e = absurd (cc e)
due_unlisted Place.Seize h e = refl
due_unlisted Place.RefuseUncount h e = refl
due_unlisted Place.RefuseNotifyMemory h e = refl
due_unlisted Place.RefuseNotifyStarved h e = refl
due_unlisted Place.ReleaseNotify h e = refl
due_unlisted _ h e = absurd (cc h)
