-- What a poll that is carried out alone does to a lock that is free for it, as callers see it.
use Rattle.world_rwlock.proofs.Prelude.{◌≡◌, ◌≢◌, ℕ, ◌<◌, ◌≤◌, ◌⊎◌, inl, inr, true, false, length, map, Option, refl, sym, ap, ◌∙◌, subst, arith, set, set-get_or, false≢true, list_all, is_marked_at, is_party, entries_of, Answer, Call, Value, Inputs, Refusal, Rest, Outside, Forgotten, how_many, outside, refused, is_outside_stage, TurnCourse, listed, turn_at, IsStarved, holders, starved, holder_of, out_unlisted, holding_unlisted, gave_way, End, Next, Place, has_turn, in_no_writer, in_no_readers, fits_turn, place_at, IsRwLock, readers, PollsAlone, waits_to_read, looks_for_readers, waits_for_turn, IsCalledToTurn, Took, TookTurn, StandsBack, GaveTurnWay, HasEnough, SoloPolls, stage_at, is_future, goes_with, sought_at, Table, Guarded, answer_by, Account, moves_of, answers_of, Runs, IsRwLockTable, Stands, nobody, is_upgradable, waits_to_write as waits, World, standing_of, is_starved, is_upgrader, how_many_read, is_marked, is_at_rest, upgrading, waiting, writing, turn_as, share_of, turn_by, is_reading, is_upgrade, verdict, standing_at, view_of, IsSoloForTurn, IsToldOfTurn, IsToldToRead, IsSoloToWrite, TakesTurn, GivesTurnWay, SoloPollForTurn, TakesToRead, TakesToWrite, rest_seen, outside_stage, inside_or_past}
use Rattle.world_base.proofs.Bounds.{marked_listed}
use Rattle.world_base.proofs.Rests.{still_outside}
use Rattle.world_mutex.specs.machine.Course.{bit, counted}
use Rattle.world_mutex.proofs.of_machine.callers.Holders as sees
use Rattle.world_rwlock.proofs.of_machine.solo_polls.Solo.{writer_at, solo_polls}
use Rattle.world_rwlock.specs.State.{writes}
use Rattle.world_rwlock.proofs.table.Begun.{at_future}
use Rattle.world_rwlock.proofs.bound.Alone.{Ended, polls_alone}
use Rattle.world_rwlock.proofs.laws.Sound.{nobody_holds, bit_seen, all_rest}
use Rattle.world_rwlock.proofs.step.Idle.{sought_is}
use Rattle.world_rwlock.proofs.step.Owns as owns
use Rattle.world_rwlock.proofs.table.Views as view
use Rattle.world_base.specs.Frame.{is_refusal}
use Rattle.world_mutex.specs.machine.Mutex.{is_counted}
use Rattle.world_rwlock.specs.Bound.{MeetsReaders as Meets}
use Rattle.world_rwlock.specs.State.{writes}
use Rattle.world_rwlock.specs.machine.Solo.{MeetsReaders}

-- ---- where a pending party stands that is listed

pub in_turn_list : (t : TurnCourse) (x : Place) → is_future x ≡ true → fits_turn x t ≡ true → 0 < listed t → waits_for_turn x ≡ true
in_turn_list t = at_future (λ x. fits_turn x t ≡ true → 0 < listed t → waits_for_turn x ≡ true) (record {
  made = λ w fits there. absurd (omega (arith, there, out_unlisted t fits));
  no_writer = λ fits there. absurd (omega (arith, there, out_unlisted t fits));
  turn = λ q fits there. refl;
  no_readers = λ upgrade fits there. absurd (omega (arith, there, holding_unlisted t fits));
  upgrade = λ fits there. absurd (omega (arith, there, holding_unlisted t fits));
})

in_no_writer_list : (x : Place) → is_future x ≡ true → 0 < in_no_writer x → waits_to_read x ≡ true
in_no_writer_list = at_future (λ x. 0 < in_no_writer x → waits_to_read x ≡ true) (record {
  made = λ w there. absurd (omega (arith, there));
  no_writer = λ there. refl;
  turn = λ q there. absurd (omega (arith, there));
  no_readers = λ upgrade there. absurd (omega (arith, there));
  upgrade = λ there. absurd (omega (arith, there));
})

in_no_readers_list : (x : Place) → is_future x ≡ true → 0 < in_no_readers x → looks_for_readers x ≡ true
in_no_readers_list = at_future (λ x. 0 < in_no_readers x → looks_for_readers x ≡ true) (record {
  made = λ w there. absurd (omega (arith, there));
  no_writer = λ there. absurd (omega (arith, there));
  turn = λ q there. absurd (omega (arith, there));
  no_readers = λ upgrade there. refl;
  upgrade = λ there. absurd (omega (arith, there));
})

-- or is an upgrade's
upgrade_looks : (x : Place) → is_future x ≡ true → is_upgrade x ≡ true → looks_for_readers x ≡ true
upgrade_looks = at_future (λ x. is_upgrade x ≡ true → looks_for_readers x ≡ true) (record {
  made = λ w up. absurd (false≢true up);
  no_writer = λ up. absurd (false≢true up);
  turn = λ q up. absurd (false≢true up);
  no_readers = λ upgrade up. refl;
  upgrade = λ up. refl;
})

-- what each party's call is decided on
abbrev verdicts : Table Guarded → ℕ → Option Answer
verdicts t q = verdict t.machine.value (place_at t.machine.lock.places q) (turn_at t.machine.lock.turn.courses q)

-- a World as it is seen
abbrev shown : World → World
shown w = view_of w.behind

module _ (w v : World) (p : ℕ) (a : Answer) where
  ready_seen : (e : End) → e ≡ End.Got → Ended w p a v e → a ≡ Answer.Ready (Value (shown v).state.value)
  ready_seen e is k = k.answer ∙ (ap (λ x. answer_by w.behind.machine.value (Next.End x k.to)) is ∙ ap (λ v. Answer.Ready (Value v)) (sym k.value))

  -- who has the turn then
  turn_seen : (e : End) (x : Place) → Ended w p a v e → place_at v.behind.machine.lock.places p ≡ x → has_turn x ≡ 1 → (shown v).state.turn ≡ turn_as p (share_of x)
  turn_seen e x k here has = let u = v.behind in owns.turn_at_place u.machine.lock u.stages u.opening u.machine.value k.stands.laws k.stands.fits p x here has

  takes_turn_seen : (e : End) → TookTurn p e v.behind.machine.lock → Ended w p a v e → TakesTurn (shown w) p a (shown v)
  takes_turn_seen End.Got (inl here) k =
      let turn : (shown v).state.turn ≡ is_upgradable p = turn_seen End.Got Place.Upgradable k here refl in
      record { has_turn = owns.has_as (shown v).state.turn p upgrading turn; kept = k.value; answered = inl (ready_seen End.Got refl k, inl turn) }
  takes_turn_seen End.Got (inr here) k =
      let turn : (shown v).state.turn ≡ writes p = turn_seen End.Got Place.Writing k here refl in
      record { has_turn = owns.has_as (shown v).state.turn p writing turn; kept = k.value; answered = inl (ready_seen End.Got refl k, inr turn) }
  takes_turn_seen End.Pending here k =
      let at = writer_at (place_at v.behind.machine.lock.places p) here in
      let turn : (shown v).state.turn ≡ waits p = turn_seen End.Pending (Place.AwaitNoReaders at.0) k at.1 refl in
      record { has_turn = owns.has_as (shown v).state.turn p waiting turn; kept = k.value; answered = inr (k.answer, turn) }
  takes_turn_seen _ here k = absurd here

  rests_seen : IsRwLockTable w.behind → IsRwLockTable v.behind → v.behind.stages ≡ set w.behind.stages p (Outside Rest.Pending) → is_at_rest (shown w) ≡ true → is_at_rest (shown v) ≡ true
  rests_seen tf uf is resting =
      let t = w.behind in
      let u = v.behind in
      let before : list_all is_outside_stage t.stages ≡ true = sym (rest_seen (verdicts t) t.stages) ∙ resting in
      rest_seen (verdicts u) u.stages ∙ (ap (list_all is_outside_stage) is ∙ still_outside t.stages p (Outside Rest.Pending) refl before)

  gives_way_seen : (e : End) → IsRwLockTable w.behind → 0 < entries_of p w.behind.machine.lock.turn.entries → is_refusal a ≡ false → GaveTurnWay p w.behind.machine.lock e v.behind.machine.lock → StandsBack p w.behind.machine.lock e v.behind.machine.lock → Ended w p a v e → GivesTurnWay (shown w) p a (shown v)
  gives_way_seen End.Pending tf there below g back k =
      let t = w.behind in
      let u = v.behind in
      record {
        free = ap (λ h. turn_by h u.machine.lock.places) (sees.none_held 0 u.machine.lock.turn.courses back.0.free);
        pending = k.answer;
        gave_way = gave_way p t.machine.lock.turn u.machine.lock.turn back.0 there;
        readers = ap (map is_reading) (g.places ∙ (ap (set t.machine.lock.places p) back.1 ∙ set-get_or t.machine.lock.places p Place.Out));
        rests = rests_seen tf k.stands.fits k.stages;
      }
  gives_way_seen (End.Refused Refusal.Starved) tf there below g back k = absurd (let is : is_refusal a ≡ true = ap is_refusal k.answer in cc (is, below))
  gives_way_seen _ tf there below g back k = absurd back

  reads_seen : (e : End) → Took p Place.Reading e v.behind.machine.lock → Ended w p a v e → TakesToRead (shown w) p a (shown v)
  reads_seen e took k =
      let u = v.behind in
      record {
        ready = ready_seen e took.0 k;
        kept = k.value;
        reads = owns.reads_as u.machine.lock u.stages u.opening u.machine.value k.stands.laws k.stands.fits p ∙ ap is_reading took.1;
      }

  writes_seen : (e : End) → Took p Place.Writing e v.behind.machine.lock → Ended w p a v e → TakesToWrite (shown w) p a (shown v)
  writes_seen e took k = record {
    ready = ready_seen e took.0 k;
    kept = k.value;
    writes = turn_seen e Place.Writing k took.1 refl;
  }

module _ (w : World) (p : ℕ) (i : Inputs) (laws : IsRwLock w.behind.machine.lock) (tf : IsRwLockTable w.behind) (pending : standing_of (shown w) p ≡ outside Rest.Pending) where
  abbrev t : Table Guarded
  t = w.behind

  -- the party stands pending in the table
  pub at_stage : (p < length w.behind.stages) × (stage_at w.behind.stages p ≡ Outside Rest.Pending)
  at_stage =
      let here : Place = place_at w.behind.machine.lock.places p in
      let there : TurnCourse = turn_at w.behind.machine.lock.turn.courses p in
      let stood : standing_of (shown w) p ≡ standing_at w.behind.machine.value (stage_at w.behind.stages p) here there = owns.stood w.behind.machine.lock w.behind.stages w.behind.opening w.behind.machine.value laws tf p in
      elim (inside_or_past w.behind.stages p) as (λ _. (p < length w.behind.stages) × (stage_at w.behind.stages p ≡ Outside Rest.Pending)) [
        | inl known ↦ (known, outside_stage (verdict w.behind.machine.value here there) (stage_at w.behind.stages p) Rest.Pending (sym stood ∙ pending))
        | inr past ↦ (let never : standing_at w.behind.machine.value Forgotten here there ≡ outside Rest.Pending = rw past.1 at (sym stood ∙ pending) in absurd (cc))
      ]

  pub future : is_future (place_at t.machine.lock.places p) ≡ true
  future = ap (λ s. goes_with s (place_at t.machine.lock.places p)) (sym at_stage.1) ∙ tf.stands p at_stage.0

  law : SoloPolls t.machine.lock
  law = solo_polls t.machine.lock laws

  module _ (v : World) (a : Answer) (e : End) (polls : PollsAlone i.memory p e v.behind.machine.lock w.behind.machine.lock) (k : Ended w p a v e) where
    reading_took : IsToldToRead (shown w) p → is_marked (shown w).state.turn ≡ false → how_many_read (shown w) < t.machine.lock.limit → Took p Place.Reading e v.behind.machine.lock
    reading_took solo free below =
        let there : 0 < in_no_writer (place_at t.machine.lock.places p) = omega (arith, laws.owners_no_writer p, marked_listed p t.machine.lock.no_writer solo.marked) in
        let few : readers t.machine.lock < t.machine.lock.limit = rw view.how_many-read at below in
        law.reads (bit_seen t.machine.lock t.stages t.opening t.machine.value laws tf free) few i.memory p e v.behind.machine.lock (in_no_writer_list (place_at t.machine.lock.places p) future there, solo.marked) polls

    reading_polled : IsToldToRead (shown w) p → is_marked (shown w).state.turn ≡ false → how_many_read (shown w) < t.machine.lock.limit → TakesToRead (shown w) p a (shown v)
    reading_polled solo free below = reads_seen w v p a e (reading_took solo free below) k

    reading_full : IsToldToRead (shown w) p → is_marked (shown w).state.turn ≡ false → t.machine.lock.limit ≤ how_many_read (shown w) → a ≡ refused Refusal.Readers
    reading_full solo free full =
        let there : 0 < in_no_writer (place_at t.machine.lock.places p) = omega (arith, laws.owners_no_writer p, marked_listed p t.machine.lock.no_writer solo.marked) in
        let many : t.machine.lock.limit ≤ readers t.machine.lock = rw view.how_many-read at full in
        let is : e ≡ End.Refused Refusal.Readers = law.reads_full (bit_seen t.machine.lock t.stages t.opening t.machine.value laws tf free) many i.memory p e v.behind.machine.lock (in_no_writer_list (place_at t.machine.lock.places p) future there, solo.marked) polls in
        k.answer ∙ ap (λ x. answer_by t.machine.value (Next.End x k.to)) is

    writing_polled : (0 < entries_of p t.machine.lock.no_readers) ⊎ (is_upgrader (shown w) p ≡ true) → how_many_read (shown w) ≡ 0 → TakesToWrite (shown w) p a (shown v)
    writing_polled some free =
        let looks : looks_for_readers (place_at t.machine.lock.places p) ≡ true = elim some as (λ _. looks_for_readers (place_at t.machine.lock.places p) ≡ true) [
          | inl listed ↦ in_no_readers_list (place_at t.machine.lock.places p) future (omega (arith, laws.owners_no_readers p, listed))
          | inr up ↦ upgrade_looks (place_at t.machine.lock.places p) future (sym (view.upgrades_at t.machine.lock.places p) ∙ up)
        ] in
        let none : readers t.machine.lock ≡ 0 = sym (view.how_many-read t.machine.lock.places) ∙ free in
        writes_seen w v p a e (law.writes none i.memory p e v.behind.machine.lock looks polls) k

    -- who met the readers' limit is refused
    met_seen : MeetsReaders p t.machine.lock e → Meets (shown w) p
    met_seen met = (sought_is t p ∙ ap sought_at met.wants, omega (arith, met.full, view.how_many-read t.machine.lock.places))

    met_refused : MeetsReaders p t.machine.lock e → is_refusal a ≡ true
    met_refused met = ap is_refusal (k.answer ∙ ap (λ z. answer_by t.machine.value (Next.End z k.to)) met.refused)

    took_or_met : TookTurn p e v.behind.machine.lock ⊎ MeetsReaders p t.machine.lock e → TakesTurn (shown w) p a (shown v) ⊎ (Meets (shown w) p × (is_refusal a ≡ true))
    took_or_met (inl took) = inl (takes_turn_seen w v p a e took k)
    took_or_met (inr met) = inr (met_seen met, met_refused met)

    either_seen : 0 < entries_of p t.machine.lock.turn.entries → is_refusal a ≡ false → TookTurn p e v.behind.machine.lock ⊎ (GaveTurnWay p t.machine.lock e v.behind.machine.lock ⊎ MeetsReaders p t.machine.lock e) → TakesTurn (shown w) p a (shown v) ⊎ GivesTurnWay (shown w) p a (shown v)
    either_seen some below (inl took) = inl (takes_turn_seen w v p a e took k)
    either_seen some below (inr (inl gave)) = inr (gives_way_seen w v p a e tf some below gave gave.stands_back k)
    either_seen some below (inr (inr met)) = absurd (let is = met_refused met in cc (is, below))

    -- who is refused met the limit of the starved, and is none of them
    refused_seen : is_refusal a ≡ true → TookTurn p e v.behind.machine.lock ⊎ (GaveTurnWay p t.machine.lock e v.behind.machine.lock ⊎ MeetsReaders p t.machine.lock e) → ((how_many (shown w).state.starved ≡ t.machine.lock.turn.limit) × (is_starved (shown w) p ≡ false)) ⊎ Meets (shown w) p
    refused_seen is (inl took) = absurd (answered (takes_turn_seen w v p a e took k).answered) where
      answered : ((a ≡ Answer.Ready (Value (shown v).state.value)) × (((shown v).state.turn ≡ is_upgradable p) ⊎ ((shown v).state.turn ≡ writes p))) ⊎ ((a ≡ Answer.Pending) × ((shown v).state.turn ≡ waits p)) → ⊥
      answered (inl r) = let never : is_refusal a ≡ false = ap is_refusal r.0 in cc (is, never)
      answered (inr r) = let never : is_refusal a ≡ false = ap is_refusal r.0 in cc (is, never)
    refused_seen is (inr (inr met)) = inr (met_seen met)
    refused_seen is (inr (inl gave)) = inl (by_end e k gave.stands_back) where
      by_end : (e : End) → Ended w p a v e → StandsBack p t.machine.lock e v.behind.machine.lock → (how_many (shown w).state.starved ≡ t.machine.lock.turn.limit) × (is_starved (shown w) p ≡ false)
      by_end End.Pending k back = absurd (let never : is_refusal a ≡ false = ap is_refusal k.answer in cc (is, never))
      by_end (End.Refused Refusal.Starved) k back = (sees.how_many_counted t.machine.lock.turn.courses ∙ back.0.stands_back.2, sees.starved_at t.machine.lock.turn.courses p ∙ ap is_counted back.0.unstarved_here)
      by_end _ k back = absurd back

    why_seen : (is_starved (shown w) p ≡ true) ⊎ (how_many (shown w).state.starved ≡ 0) → IsStarved t.machine.lock.turn p ⊎ (starved t.machine.lock.turn ≡ 0)
    why_seen (inl starving) = inl (sym (sees.counted_bit (turn_at t.machine.lock.turn.courses p)) ∙ ap bit (sym (sees.starved_at t.machine.lock.turn.courses p) ∙ starving))
    why_seen (inr none) = inr (sym (sees.how_many_counted t.machine.lock.turn.courses) ∙ none)

    -- it was notified for the turn, while nobody has that and readers are below their limit
    record CalledThere : Type 0 where
      pub some : 0 < entries_of p t.machine.lock.turn.entries
      pub called : IsCalledToTurn t.machine.lock p
      pub nobody_there : holders t.machine.lock.turn ≡ 0

    called_there : is_marked_at (is_party p) t.machine.lock.turn.entries ≡ true → (shown w).state.turn ≡ nobody → CalledThere
    called_there marked free =
        let some : 0 < entries_of p t.machine.lock.turn.entries = marked_listed p t.machine.lock.turn.entries marked in
        let there : 0 < listed (turn_at t.machine.lock.turn.courses p) = omega (arith, laws.turn.owners p, some) in
        record {
          some = some;
          called = (in_turn_list (turn_at t.machine.lock.turn.courses p) (place_at t.machine.lock.places p) future (laws.in_turn p) there, marked);
          nobody_there = sees.none_holds 0 t.machine.lock.turn.courses (nobody_holds (holder_of t.machine.lock.turn) t.machine.lock.places free);
        }

    turn_polled : IsSoloForTurn (shown w) p i → (shown w).state.turn ≡ nobody → SoloPollForTurn (shown w) p a (shown v)
    turn_polled solo free =
        let c = called_there solo.marked free in
        let with_memory : PollsAlone true p e v.behind.machine.lock w.behind.machine.lock = subst (λ b. PollsAlone b p e v.behind.machine.lock w.behind.machine.lock) solo.memory polls in
        record {
          takes_or_gives_way = λ under. either_seen c.some under (law.takes_turn_or_gives_way c.nobody_there p e v.behind.machine.lock c.called with_memory);
          refused = λ is. refused_seen is (law.takes_turn_or_gives_way c.nobody_there p e v.behind.machine.lock c.called with_memory);
          takes = λ why. took_or_met (law.takes_turn c.nobody_there true p e v.behind.machine.lock c.called (λ is_write some. refl) (why_seen why) with_memory);
          behind = λ resting plain others under.
              let out : list_all is_outside_stage t.stages ≡ true = sym (rest_seen (verdicts t) t.stages) ∙ resting in
              let quiet = all_rest t.machine.lock t.stages t.machine.value tf out in
              let unstarved : counted (turn_at t.machine.lock.turn.courses p) ≡ 0 = sym (sees.counted_bit (turn_at t.machine.lock.turn.courses p)) ∙ ap bit (sym (sees.starved_at t.machine.lock.turn.courses p) ∙ plain) in
              let many : 0 < starved t.machine.lock.turn = omega (arith, others, sees.how_many_counted t.machine.lock.turn.courses) in
              let gave = law.behind quiet c.nobody_there p e v.behind.machine.lock c.called unstarved many with_memory in
              gives_way_seen w v p a e tf c.some under gave gave.stands_back k;
        }

    told_polled : IsToldOfTurn (shown w) p i → (shown w).state.turn ≡ nobody → (Meets (shown w) p → ⊥) → (is_starved (shown w) p ≡ true) ⊎ (how_many (shown w).state.starved ≡ 0) → TakesTurn (shown w) p a (shown v)
    told_polled told free below why =
        let c = called_there told.marked free in
        let enough : HasEnough i.memory t.machine.lock p = λ is_write some. told.memory (sought_is t p ∙ ap sought_at is_write) (omega (arith, some, view.how_many-read t.machine.lock.places)) in
        elim (took_or_met (law.takes_turn c.nobody_there i.memory p e v.behind.machine.lock c.called enough (why_seen why) polls)) as (λ _. TakesTurn (shown w) p a (shown v)) [ inl took ↦ took | inr met ↦ absurd (below met.0) ]

-- ---- a solo poll that was carried out alone keeps its promise

module _ (known : ℕ → Account) (w : World) (p : ℕ) (i : Inputs) (k : ℕ) (a : Answer) (v : World) (stood : Stands w) (runs : Runs known w (moves_of p Call.Poll i k) (answers_of k a) v) (not_stepped : a ≢ Answer.Stepped) where
  -- what is so of the World as it is seen is so of it
  as_seen : (P : World → World → Type 0) → standing_of w p ≡ outside Rest.Pending
      → ((e : End) → PollsAlone i.memory p e v.behind.machine.lock w.behind.machine.lock → Ended w p a v e → P (shown w) (shown v)) → P w v
  as_seen P pending gives =
      let here = at_stage w p i stood.laws stood.fits (subst (λ x. standing_of x p ≡ outside Rest.Pending) stood.seen pending) in
      let polls = polls_alone p i known k w v a not_stepped here.0 here.1 runs in
      let last : v ≡ shown v = polls.2.stands.seen in
      subst (λ x. P x v) (sym stood.seen) (subst (P (shown w)) (sym last) (gives polls.0 polls.1 polls.2))

  pub turn_seen_polled : IsSoloForTurn w p i → w.state.turn ≡ nobody → SoloPollForTurn w p a v
  turn_seen_polled solo free =
      let F : World → Type 0 = λ x. IsSoloForTurn x p i × (x.state.turn ≡ nobody) in
      let so : F (shown w) = subst F stood.seen (solo, free) in
      as_seen (λ x y. SoloPollForTurn x p a y) solo.pending (λ e polls ended. turn_polled w p i stood.laws stood.fits so.0.pending v a e polls ended so.0 so.1)

  pub told_seen_polled : IsToldOfTurn w p i → w.state.turn ≡ nobody → (Meets w p → ⊥) → (is_starved w p ≡ true) ⊎ (how_many w.state.starved ≡ 0) → TakesTurn w p a v
  told_seen_polled told free below why =
      let F : World → Type 0 = λ x. IsToldOfTurn x p i × (x.state.turn ≡ nobody) × (Meets x p → ⊥) × ((is_starved x p ≡ true) ⊎ (how_many x.state.starved ≡ 0)) in
      let so : F (shown w) = subst F stood.seen (told, free, below, why) in
      as_seen (λ x y. TakesTurn x p a y) told.pending (λ e polls ended. told_polled w p i stood.laws stood.fits so.0.pending v a e polls ended so.0 so.1 so.2 so.3)

  pub reading_seen_polled : IsToldToRead w p → is_marked w.state.turn ≡ false → how_many_read w < w.readers_limit → TakesToRead w p a v
  reading_seen_polled told free below =
      let F : World → Type 0 = λ x. IsToldToRead x p × (is_marked x.state.turn ≡ false) × (how_many_read x < x.readers_limit) in
      let so : F (shown w) = subst F stood.seen (told, free, below) in
      as_seen (λ x y. TakesToRead x p a y) told.pending (λ e polls ended. reading_polled w p i stood.laws stood.fits so.0.pending v a e polls ended so.0 so.1 so.2)

  -- and where its party stands then
  pub reading_there : IsToldToRead w p → is_marked w.state.turn ≡ false → how_many_read w < w.readers_limit → place_at v.behind.machine.lock.places p ≡ Place.Reading
  reading_there told free below =
      let F : World → Type 0 = λ x. IsToldToRead x p × (is_marked x.state.turn ≡ false) × (how_many_read x < x.readers_limit) in
      let so : F (shown w) = subst F stood.seen (told, free, below) in
      as_seen (λ x y. place_at y.behind.machine.lock.places p ≡ Place.Reading) told.pending (λ e polls ended. (reading_took w p i stood.laws stood.fits so.0.pending v a e polls ended so.0 so.1 so.2).1)

  pub full_seen_polled : IsToldToRead w p → is_marked w.state.turn ≡ false → w.readers_limit ≤ how_many_read w → a ≡ refused Refusal.Readers
  full_seen_polled told free full =
      let F : World → Type 0 = λ x. IsToldToRead x p × (is_marked x.state.turn ≡ false) × (x.readers_limit ≤ how_many_read x) in
      let so : F (shown w) = subst F stood.seen (told, free, full) in
      as_seen (λ x y. a ≡ refused Refusal.Readers) told.pending (λ e polls ended. reading_full w p i stood.laws stood.fits so.0.pending v a e polls ended so.0 so.1 so.2)

  pub writing_seen_polled : IsSoloToWrite w p → how_many_read w ≡ 0 → TakesToWrite w p a v
  writing_seen_polled solo free =
      let F : World → Type 0 = λ x. IsSoloToWrite x p × (how_many_read x ≡ 0) in
      let so : F (shown w) = subst F stood.seen (solo, free) in
      as_seen (λ x y. TakesToWrite x p a y) solo.pending (λ e polls ended. writing_polled w p i stood.laws stood.fits so.0.pending v a e polls ended so.0.looks so.1)
