-- What an action's answer says of its party's standing.
use Rattle.world_rwlock.proofs.Prelude.{◌≡◌, ℕ, ◌⊎◌, Bool, true, false, Option, Some, None, refl, ◌∙◌, Answer, Kind, Rest, Within, within, is_refusal, outside, inside, End, Got, Granted, Pending, NotFree, GivenBack, Refused, TurnCourse, Next, Place, LookUnlisted, place_after, answer_by, Course, polls, tries, drops, downgrades, upgrades, tries_upgrade, course_of, is_on_course, is_upgrade, verdict, standing_at}
use Rattle.world_rwlock.proofs.step.Paths.{ends_in, Keeps}
use Rattle.world_rwlock.proofs.step.Rows.{verdict_then, KeepsUpgrade, RefusedAt, is_made}
use Rattle.world_rwlock.proofs.table.Stages.{on_course, stage_then}

-- ---- refusals

-- where a party stands that is refused
pub refused_where : (v : ℕ) (x : Place) (n : Next) → RefusedAt x n → is_refusal (answer_by v n) ≡ true → ((is_made (place_after n) ≡ true) × (is_upgrade x ≡ false)) ⊎ ((place_after n ≡ LookUnlisted true) × (is_upgrade x ≡ true))
refused_where v x (Next.End (Refused f) q) r h = r
refused_where v x (Next.End _ q) r h = absurd (cc)
refused_where v x _ r h = absurd (cc)

-- a call that is given back wasn't refused
pub given_not_refused : (v : ℕ) (u : TurnCourse) (n : Next) → verdict_then v u n ≡ Some Answer.GivenBack → is_refusal (answer_by v n) ≡ true → ⊥
given_not_refused v u (Next.Do a q) e h = cc
given_not_refused v u (Next.Wait q) e h = cc
given_not_refused v u (Next.End Got q) e h = cc
given_not_refused v u (Next.End Granted q) e h = cc
given_not_refused v u (Next.End Pending q) e h = cc
given_not_refused v u (Next.End NotFree q) e h = cc
given_not_refused v u (Next.End End.Waiting q) e h = cc
given_not_refused v u (Next.End GivenBack q) e h = cc
given_not_refused v u (Next.End (Refused r) q) e h = cc

-- ---- upgrades

pub waiting_upgrades : (v : ℕ) (x : Place) (n : Next) → KeepsUpgrade v x n → answer_by v n ≡ Answer.Waiting → is_upgrade (place_after n) ≡ true
waiting_upgrades v x (Next.Wait q) h e = h
waiting_upgrades v x (Next.Do a q) h e = absurd (cc)
waiting_upgrades v x (Next.End Got q) h e = absurd (cc)
waiting_upgrades v x (Next.End Granted q) h e = absurd (cc)
waiting_upgrades v x (Next.End Pending q) h e = absurd (cc)
waiting_upgrades v x (Next.End NotFree q) h e = absurd (cc)
waiting_upgrades v x (Next.End End.Waiting q) h e = h
waiting_upgrades v x (Next.End GivenBack q) h e = absurd (cc)
waiting_upgrades v x (Next.End (Refused r) q) h e = absurd (cc)

-- only a poll, or the beginning of an upgrade, leaves a party pending
abbrev PendsSo : Kind → Rest → Course → Type 0
PendsSo k r c = (v : ℕ) (x : Place) (u : TurnCourse) (e : End) (q : Place) → ends_in c e q ≡ true → KeepsUpgrade v x (Next.End e q) → standing_at v (stage_then (within k r) v (Next.End e q)) q u ≡ outside Rest.Pending → (is_upgrade q ≡ is_upgrade x) × (k ≡ Kind.Drop → ⊥)

pends_poll : (k : Kind) (r : Rest) → (k ≡ Kind.Drop → ⊥) → PendsSo k r polls
pends_poll k r d v x u Pending q h g e = (g, d)
pends_poll k r d v x u (Refused f) q h g e = (g, d)
pends_poll k r d v x u _ q h g e = absurd (cc)

pends_try : PendsSo Kind.Try Rest.Idle tries
pends_try v x u Granted q h g e = absurd (cc)
pends_try v x u NotFree q h g e = absurd (cc)
pends_try v x u _ q h g e = absurd (cc)

pends_drop : (r : Rest) → PendsSo Kind.Drop r drops
pends_drop r v x u GivenBack q h g e = absurd (cc)
pends_drop r v x u _ q h g e = absurd (cc)

pends_downgrade : PendsSo Kind.Downgrade Rest.Holding downgrades
pends_downgrade v x u GivenBack q h g e = absurd (cc)
pends_downgrade v x u _ q h g e = absurd (cc)

pends_upgrade : PendsSo Kind.Upgrade Rest.Holding upgrades
pends_upgrade v x u e q h g at = absurd (cc)

pends_try_upgrade : PendsSo Kind.TryUpgrade Rest.Holding tries_upgrade
pends_try_upgrade v x u Granted q h g e = absurd (cc)
pends_try_upgrade v x u NotFree q h g e = absurd (cc)
pends_try_upgrade v x u _ q h g e = absurd (cc)

pends_so : (k : Kind) (r : Rest) (c : Course) → is_on_course k r c ≡ true → PendsSo k r c
pends_so = on_course PendsSo (record {
  first_poll = pends_poll Kind.FirstPoll Rest.Idle (λ e. cc);
  later_poll = pends_poll Kind.LaterPoll Rest.Pending (λ e. cc);
  try = pends_try;
  drop_future = pends_drop Rest.Pending;
  drop_guard = pends_drop Rest.Holding;
  downgrade = pends_downgrade;
  upgrade = pends_upgrade;
  try_upgrade = pends_try_upgrade;
})

by_drop : (b : Bool) (P : Type 0) → (b ≡ false → P) → (b ≡ true → P) → P
by_drop true P f g = g refl
by_drop false P f g = f refl

pub pending_upgrades : (w : Within) (x : Place) → is_on_course w.kind w.was (course_of x) ≡ true → (v : ℕ) (u : TurnCourse) (n : Next) → Keeps (course_of x) n → KeepsUpgrade v x n → {drop : Bool} {was : Bool} → (drop ≡ false → is_upgrade x ≡ was) → (drop ≡ true → w.kind ≡ Kind.Drop)
    → (answer_by v n ≡ Answer.Waiting → ⊥) → standing_at v (stage_then w v n) (place_after n) u ≡ outside Rest.Pending → is_upgrade (place_after n) ≡ was
pending_upgrades w x h v u (Next.Do a q) k g {drop} {was} not is waits e = absurd (cc)
pending_upgrades w x h v u (Next.Wait q) k g {drop} {was} not is waits e = absurd (waits refl)
pending_upgrades w x h v u (Next.End en q) k g {drop} {was} not is waits e =
    let it = pends_so w.kind w.was (course_of x) h v x u en q k g e in
    by_drop drop (is_upgrade q ≡ was) (λ b. it.0 ∙ not b) (λ b. absurd (it.1 (is b)))

inside_eq : (w y : Within) (o z : Option Answer) → inside w o ≡ inside y z → o ≡ z
inside_eq w y o z e = cc

pub undecided_upgrades : (w : Within) (x : Place) (v : ℕ) (u : TurnCourse) (n : Next) → KeepsUpgrade v x n → {drop : Bool} {was : Bool} → (drop ≡ false → is_upgrade x ≡ was) → (drop ≡ true → verdict_then v u n ≡ Some Answer.GivenBack)
    → (y : Within) → standing_at v (stage_then w v n) (place_after n) u ≡ inside y None → is_upgrade (place_after n) ≡ was
undecided_upgrades w x v u (Next.Do a q) g {drop} {was} not is y e =
    let none : verdict v q u ≡ None = inside_eq w y (verdict v q u) None e in
    by_drop drop (is_upgrade q ≡ was) (λ b. g u none ∙ not b) (λ b. let some = is b in absurd (cc))
undecided_upgrades w x v u (Next.Wait q) g not is y e = absurd (cc)
undecided_upgrades w x v u (Next.End Got q) g not is y e = absurd (cc)
undecided_upgrades w x v u (Next.End Granted q) g not is y e = absurd (cc)
undecided_upgrades w x v u (Next.End Pending q) g not is y e = absurd (cc)
undecided_upgrades w x v u (Next.End NotFree q) g not is y e = absurd (cc)
undecided_upgrades w x v u (Next.End End.Waiting q) g not is y e = absurd (cc)
undecided_upgrades w x v u (Next.End GivenBack q) g not is y e = absurd (cc)
undecided_upgrades w x v u (Next.End (Refused r) q) g not is y e = absurd (cc)
