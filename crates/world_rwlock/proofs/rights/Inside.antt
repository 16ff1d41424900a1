-- In which calls a party may be, and what it seeks there.
use Rattle.world_rwlock.proofs.Prelude.{◌≡◌, ℕ, ◌<◌, inl, inr, Bool, true, false, List, length, Option, None, refl, ap, sym, ◌∙◌, subst, length-map, and_parts, Answer, Refusal, Kind, Rest, Stage, Outside, Inside, Forgotten, Within, inside, turn_at, Ending, Place, RwLock, place_at, stage_at, Course, drops, upgrades, tries_upgrade, course_of, is_on_course, is_inside, goes_with, sought_at, World, standing_of, sought_by, is_long_call, verdict_of, standing_at, seen, standings_at, length-standings, inside_or_past}
use Rattle.world_rwlock.proofs.table.Views as view
use Rattle.world_rwlock.proofs.table.Views.{Fits}

-- a course whose calls take one step
abbrev is_short : Course → Bool
is_short upgrades = true
is_short tries_upgrade = true
is_short _ = false

-- nobody is inside such a call
inside_long : (x : Place) → is_inside x ≡ true → is_short (course_of x) ≡ false
inside_long Place.Upgrade i = absurd (cc)
inside_long Place.TryUpgrade i = absurd (cc)
inside_long (Place.RefuseNotify Refusal.Memory) i = refl
inside_long (Place.RefuseNotify Refusal.Readers) i = refl
inside_long (Place.RefuseNotify _) i = refl
inside_long (Place.Add true) i = refl
inside_long (Place.Add false) i = refl
inside_long (Place.Unmark true) i = refl
inside_long (Place.Unmark false) i = refl
inside_long (Place.UnmarkNotify true) i = refl
inside_long (Place.UnmarkNotify false) i = refl
inside_long (Place.ReleaseTurn Ending.GivenBack) i = refl
inside_long (Place.ReleaseTurn _) i = refl
inside_long (Place.ReleasingTurn Ending.GivenBack) i = refl
inside_long (Place.ReleasingTurn _) i = refl
inside_long _ i = refl

long_call : (k : Kind) (r : Rest) (c : Course) → is_on_course k r c ≡ true → is_short c ≡ false → is_long_call k r ≡ true
long_call Kind.FirstPoll Rest.Idle c on long = refl
long_call Kind.LaterPoll Rest.Pending c on long = refl
long_call Kind.Try Rest.Idle c on long = refl
long_call Kind.Drop Rest.Pending c on long = refl
long_call Kind.Drop Rest.Holding c on long = refl
long_call Kind.Downgrade Rest.Holding c on long = refl
long_call Kind.Upgrade Rest.Holding upgrades on long = absurd (cc)
long_call Kind.TryUpgrade Rest.Holding tries_upgrade on long = absurd (cc)
long_call _ _ _ on long = absurd (cc)

on_drops : (r : Rest) (c : Course) → is_on_course Kind.Drop r c ≡ true → c ≡ drops
on_drops Rest.Pending drops on = refl
on_drops Rest.Holding drops on = refl
on_drops _ _ on = absurd (cc)

-- a drop's places seek nothing
drop_seeks : (x : Place) → course_of x ≡ drops → sought_at x ≡ None
drop_seeks Place.Out e = refl
drop_seeks Place.CancelRead e = refl
drop_seeks Place.CancelTurn e = refl
drop_seeks Place.CancellingTurn e = refl
drop_seeks Place.DropRead e = refl
drop_seeks Place.DropReadNotify e = refl
drop_seeks Place.DropUpgradable e = refl
drop_seeks Place.DropUpgradableNotify e = refl
drop_seeks Place.DropWrite e = refl
drop_seeks Place.CancelAwait e = refl
drop_seeks (Place.Unmark false) e = refl
drop_seeks (Place.Unmark true) e = absurd (cc)
drop_seeks (Place.UnmarkNotify false) e = refl
drop_seeks (Place.UnmarkNotify true) e = absurd (cc)
drop_seeks (Place.ReleaseTurn Ending.GivenBack) e = refl
drop_seeks (Place.ReleaseTurn _) e = absurd (cc)
drop_seeks (Place.ReleasingTurn Ending.GivenBack) e = refl
drop_seeks (Place.ReleasingTurn _) e = absurd (cc)
drop_seeks (Place.RefuseNotify Refusal.Memory) e = absurd (cc)
drop_seeks (Place.RefuseNotify Refusal.Readers) e = absurd (cc)
drop_seeks (Place.RefuseNotify _) e = absurd (cc)
drop_seeks (Place.Add true) e = absurd (cc)
drop_seeks (Place.Add false) e = absurd (cc)
drop_seeks _ e = absurd (cc)

same_within : (u x : Within) (d e : Option Answer) → inside x e ≡ inside u d → x ≡ u
same_within u x d e h = cc

module _ (l : RwLock) (ss : List Stage) (opening : ℕ) (v : ℕ) (fits : Fits l ss v) where
  abbrev w : World
  w = seen l ss opening v

  -- a party that is inside a call is in the table, at that stage
  staged : (p : ℕ) (u : Within) (d : Option Answer) → standing_of w p ≡ inside u d → (stage_at ss p ≡ Inside u) × (p < length ss)
  staged p u d e =
      let stood : standing_at v (stage_at ss p) (place_at l.places p) (turn_at l.turn.courses p) ≡ inside u d = sym (standings_at (verdict_of (record { lock = l; value = v })) ss p) ∙ e in
      let stage = by_stage (stage_at ss p) stood in (
        stage,
        elim (inside_or_past ss p) as (λ _. p < length ss) [
          | inl known ↦ known
          | inr past ↦ absurd (cc (sym stage ∙ past.1))
        ],
      )
    where
      by_stage : (s : Stage) → standing_at v s (place_at l.places p) (turn_at l.turn.courses p) ≡ inside u d → s ≡ Inside u
      by_stage (Outside r) h = absurd (cc)
      by_stage (Inside x) h = ap Inside (same_within u x d _ h)
      by_stage Forgotten h = absurd (cc)

  fitting : (p : ℕ) (u : Within) (d : Option Answer) → standing_of w p ≡ inside u d → (is_inside (place_at l.places p) ≡ true) × (is_on_course u.kind u.was (course_of (place_at l.places p)) ≡ true)
  fitting p u d e =
      let at = staged p u d e in
      let P : Stage → Type 0 = λ s. goes_with s (place_at l.places p) ≡ true in
      and_parts (is_inside (place_at l.places p)) (is_on_course u.kind u.was (course_of (place_at l.places p))) (subst P at.0 (fits.stands p at.1))

  pub inside_calls : (p : ℕ) (u : Within) (d : Option Answer) → standing_of w p ≡ inside u d → is_long_call u.kind u.was ≡ true
  inside_calls p u d e =
      let fit = fitting p u d e in
      long_call u.kind u.was (course_of (place_at l.places p)) fit.1 (inside_long (place_at l.places p) fit.0)

  pub drops_seek_nothing : (p : ℕ) (u : Within) (d : Option Answer) → standing_of w p ≡ inside u d → u.kind ≡ Kind.Drop → sought_by w p ≡ None
  drops_seek_nothing p u d e k =
      let C : Kind → Type 0 = λ k. is_on_course k u.was (course_of (place_at l.places p)) ≡ true in
      let course = on_drops u.was (course_of (place_at l.places p)) (subst C k (fitting p u d e).1) in
      view.seeks_at l.places p ∙ drop_seeks (place_at l.places p) course

  pub as_many_seek : length w.sought ≡ length w.standings
  as_many_seek = length-map l.places sought_at ∙ (sym fits.as_many ∙ sym (length-standings (verdict_of (record { lock = l; value = v })) ss))
