-- What a whole call promises beside its end, and beside what a solo poll does: by what each of its steps does to the machine.
use Rattle.world_mutex.proofs.Prelude.{◌≡◌, ◌≢◌, ℕ, ◌<◌, inl, inr, Bool, true, false, List, length, Some, refl, arith, ap, sym, ◌∙◌, subst, true≢false, Entry, marked_count, entries_of, Answer, Call, Value, Inputs, Move, What, Begin, Go, Kind, Rest, Stage, Outside, Within, within, Account, accounts_after, is_refusal, Refusal, how_many, outside, inputs_of, refused, going_on, moves_of, answers_of, some_eq, none_some, chosen, beginning, along, at_first, Onward, stage_at, call_at, Table, outside_stage, End, Next, Place, starved, is_waiting, is_counting, is_told, HeedsClock, decision, Promises, Guarded, knows, place_of, place_for, goes_with, answer_by, is_try_kind, is_first_poll, Runs, HoldsWell, World, standing_of, is_starved, is_free, Stands, Steps, verdict, view_of, MarksNobody}
use Rattle.world_mutex.proofs.of_machine.legal.Promised.{begins_uncounted, none_counted, HandsOn, told_on, begins_told}
use Rattle.world_mutex.proofs.of_machine.laws.Seen as sees
use Rattle.world_mutex.proofs.whole.Ring as ring
use Rattle.world_mutex.proofs.whole.FirstPolls as fresh
use Rattle.world_mutex.proofs.step.Acting.{Acting}
use Rattle.world_mutex.proofs.step.Acting as acting
use Rattle.world_mutex.proofs.bound.AloneSeen.{waits_listed, poll_seen}
use Rattle.world_mutex.proofs.bound.Sure.{notified_takes}
use Rattle.world_mutex.proofs.step.Here.{BeginsOrGoes, same_roles}
use Rattle.world_mutex.proofs.table.Seen as seen
use Rattle.world_mutex.proofs.bound.Counted.{has_or_starved, starved_if_held}
use Rattle.world_mutex.proofs.bound.Behind.{waits_behind}
use Rattle.world_mutex.proofs.whole.Newcomers.{newcomer}
use Rattle.world_mutex.proofs.whole.Takers.{only_told}
use Rattle.world_mutex.proofs.whole.Patient.{is_too_many, refuses_many, calm, begins_calm}
use Rattle.world_mutex.proofs.whole.Whole.{from_turn, by_step}

abbrev lock_at : World → ℕ → Place
lock_at x p = place_of x.behind.machine p

-- what the table's step leaves, the World's leaves
abbrev On : (Table Guarded → Type 0) → (Answer → Table Guarded → Type 0) → Answer → Table Guarded → Type 0
On G E = Onward G E

of_world : (G : Table Guarded → Type 0) (E : Answer → Table Guarded → Type 0) (a : Answer) (v : World) → On G E a v.behind → Onward (λ x. G x.behind) (λ b x. E b x.behind) a v
of_world G E a v o = record { going = o.going; ended = o.ended }

-- a step that does nothing, or puts a value, ends its call
quiet : (G : Table Guarded → Type 0) (E : Answer → Table Guarded → Type 0) (b : Answer) (x : Table Guarded) → (b ≡ Answer.Stepped → ⊥) → E b x → On G E b x
quiet G E b x never e = record { going = λ s. absurd (never s); ended = λ s. e }

module _ (p : ℕ) (i : Inputs) where
  -- ---- nobody is made starved that hasn't waited for too long, while nobody is

  abbrev Unstarved : Table Guarded → Type 0
  Unstarved t = starved t.machine.lock ≡ 0

  abbrev Unstarving : Table Guarded → Type 0
  Unstarving t = Unstarved t × (is_counting (place_of t.machine p) ≡ false) × (is_too_many (decision (place_of t.machine p)) ≡ false)

  abbrev Unrefused : Answer → Table Guarded → Type 0
  Unrefused b t = Unstarved t × (refuses_many b ≡ false)

  module _ (patient : i.starving ≡ false) where
    counts_none : (t u : Table Guarded) (what : What) (a : Answer) → (inputs_of what).starving ≡ false → Unstarved t → (w : Within) (k : Acting t u (record { party = p; what = what }) a w) → is_counting k.carries.from ≡ false → is_too_many (decision k.carries.from) ≡ false → On Unstarving Unrefused a u
    counts_none t u what a quiet none w k not_next not_many =
        let C : Bool → Type 0 = λ b. HeedsClock b k.carries.from k.carries.next in
        let m : Move = record { party = p; what = what } in
        let it = none_counted (inputs_of what).memory p k.carries.from k.carries.next t.machine.lock u.machine.lock k.carries.carried.acts (subst C quiet k.carries.carried.clock) (acting.there t u m a w k)
        (same_roles (stage_at t.stages p) w (place_of t.machine p) k.carries.from k.here.begins) none not_next in
        let so = calm (is_try_kind w.kind) t.machine.value k.carries.from k.carries.next k.carries.carried.acts.found a (place_of u.machine p) k.carries.carried.acts.next_is k.carries.answer (acting.lands_at t u m a w k) not_next not_many in
        record { going = λ e. (it.0, it.1, so.going e); ended = λ e. (it.0, so.answered) }

    abbrev Left : Answer → Table Guarded → Type 0
    Left = On Unstarving Unrefused

    steps_unstarved : (x : World) (what : What) (a : Answer) (v : World) → (inputs_of what).starving ≡ false → Unstarved x.behind → ((w : Within) (k : Acting x.behind v.behind (record { party = p; what = what }) a w) → (is_counting k.carries.from ≡ false) × (is_too_many (decision k.carries.from) ≡ false)) → Steps x (record { party = p; what = what }) a v
        → Onward (λ y. Unstarving y.behind) (λ b y. Unrefused b y.behind) a v
    steps_unstarved x what a v still none not_next s = of_world Unstarving Unrefused a v
        (by_step x.behind v.behind (record { party = p; what = what }) a s.did.stood.laws s.did.stood.fits s.did.stands.laws s.did.stands.fits Left
        (quiet Unstarving Unrefused _ x.behind (λ e. cc (e)) (none, refl)) (quiet Unstarving Unrefused _ x.behind (λ e. cc (e)) (none, refl))
        (λ n e. quiet Unstarving Unrefused _ v.behind (λ e. cc (e)) (ap (λ (g : Guarded). starved g.lock) e ∙ none, refl))
        (λ w k. let both = not_next w k in counts_none x.behind v.behind what a still none w k both.0 both.1) s.did.step)

    onward_unstarved : (x : World) (a : Answer) (v : World) → Unstarving x.behind → Steps x (going_on p i) a v → Onward (λ y. Unstarving y.behind) (λ b y. Unrefused b y.behind) a v
    onward_unstarved x a v g s = steps_unstarved x (Go i) a v patient g.0 (λ w k. let at = from_turn x.behind v.behind (going_on p i) a w k in (ap is_counting (sym at) ∙ g.1, ap (λ y. is_too_many (decision y)) (sym at) ∙ g.2)) s

    begins_at : (c : Call) (s : Stage) (w : Within) (x from : Place) → call_at knows s (Begin c i) ≡ Some w → BeginsOrGoes s w x from → (is_counting from ≡ false) × (is_too_many (decision from) ≡ false)
    begins_at c s w x from e (inl b) = (begins_uncounted b.0 x from b.1, begins_calm b.0 x from b.1)
    begins_at c s w x from e (inr g) = let C : Stage → Type 0 = λ z. call_at knows z (Begin c i) ≡ Some w in absurd (none_some (subst C g.0 e))

    first_unstarved : (c : Call) (x : World) → Unstarved x.behind → (a : Answer) (v : World) → Steps x (beginning p c i) a v → Onward (λ y. Unstarving y.behind) (λ b y. Unrefused b y.behind) a v
    first_unstarved c x none a v s = steps_unstarved x (Begin c i) a v patient none (λ w k. begins_at c (stage_at x.behind.stages p) w (lock_at x p) k.carries.from k.call k.here.begins) s

  -- ---- a refused poll of a listed party hands on

  abbrev Told : Table Guarded → Type 0
  Told t = is_told (place_of t.machine p) ≡ true

  abbrev Handed : Answer → Table Guarded → Type 0
  Handed b t = is_refusal b ≡ true → 0 < length t.machine.lock.entries → 0 < marked_count t.machine.lock.entries

  on_by : (trying : Bool) (n : ℕ) (x : Next) (at : Place) (l : List (Entry ℕ)) (a : Answer) → a ≡ answer_by trying n x → HandsOn x at l → (a ≡ Answer.Stepped → is_told at ≡ true) × (is_refusal a ≡ true → 0 < length l → 0 < marked_count l)
  on_by trying n (Next.Do b to) at l a e h = ((λ _. h), (λ r. absurd (cc (sym (ap is_refusal e) ∙ r))))
  on_by true n (Next.End End.Got) at l a e h = ((λ s. absurd (cc)), (λ r. absurd (cc (sym (ap is_refusal e) ∙ r))))
  on_by false n (Next.End End.Got) at l a e h = ((λ s. absurd (cc)), (λ r. absurd (cc (sym (ap is_refusal e) ∙ r))))
  on_by trying n (Next.End End.Pending) at l a e h = ((λ s. absurd (cc)), (λ r. absurd (cc (sym (ap is_refusal e) ∙ r))))
  on_by trying n (Next.End End.NotFree) at l a e h = ((λ s. absurd (cc)), (λ r. absurd (cc (sym (ap is_refusal e) ∙ r))))
  on_by trying n (Next.End End.Granted) at l a e h = ((λ s. absurd (cc)), (λ r. absurd (cc (sym (ap is_refusal e) ∙ r))))
  on_by trying n (Next.End End.Waiting) at l a e h = ((λ s. absurd (cc)), (λ r. absurd (cc (sym (ap is_refusal e) ∙ r))))
  on_by trying n (Next.End End.GivenBack) at l a e h = ((λ s. absurd (cc)), (λ r. absurd (cc (sym (ap is_refusal e) ∙ r))))
  on_by trying n (Next.End (End.Refused r)) at l a e h = ((λ s. absurd (cc)), (λ _. h))

  acted_told : (t u : Table Guarded) (what : What) (a : Answer) (w : Within) (k : Acting t u (record { party = p; what = what }) a w) → is_told k.carries.from ≡ true → On Told Handed a u
  acted_told t u what a w k told =
      let on = told_on (inputs_of what).memory p k.carries.from k.carries.next t.machine.lock u.machine.lock k.carries.carried.acts (acting.there t u (record { party = p; what = what }) a w k) told in
      let both = on_by (is_try_kind w.kind) t.machine.value k.carries.next (place_of u.machine p) u.machine.lock.entries a k.carries.answer on in
      record { going = λ e. both.0 e; ended = λ e. both.1 }

  steps_told : (x : World) (what : What) (a : Answer) (v : World) → ((w : Within) (k : Acting x.behind v.behind (record { party = p; what = what }) a w) → is_told k.carries.from ≡ true) → Steps x (record { party = p; what = what }) a v → Onward (λ y. Told y.behind) (λ b y. Handed b y.behind) a v
  steps_told x what a v told s = of_world Told Handed a v
      (by_step x.behind v.behind (record { party = p; what = what }) a s.did.stood.laws s.did.stood.fits s.did.stands.laws s.did.stands.fits (On Told Handed)
      (quiet Told Handed _ x.behind (λ e. cc (e)) (λ r. absurd (cc (r)))) (quiet Told Handed _ x.behind (λ e. cc (e)) (λ r. absurd (cc (r)))) (λ n e. quiet Told Handed _ v.behind (λ e. cc (e)) (λ r. absurd (cc (r))))
      (λ w k. acted_told x.behind v.behind what a w k (told w k)) s.did.step)

  onward_told : (x : World) (a : Answer) (v : World) → Told x.behind → Steps x (going_on p i) a v → Onward (λ y. Told y.behind) (λ b y. Handed b y.behind) a v
  onward_told x a v told s = steps_told x (Go i) a v (λ w k. ap is_told (sym (from_turn x.behind v.behind (going_on p i) a w k)) ∙ told) s

  told_from : (s : Stage) (w : Within) (x from : Place) → s ≡ Outside Rest.Pending → call_at knows s (Begin Call.Poll i) ≡ Some w → place_for w.was (Begin Call.Poll i) x ≡ Some from → is_waiting x ≡ true → is_told from ≡ true
  told_from s w x from is e starts waits =
      let C : Stage → Type 0 = λ z. call_at knows z (Begin Call.Poll i) ≡ Some w in
      let same : within Kind.LaterPoll Rest.Pending ≡ w = some_eq (subst C is e) in
      let S : Within → Type 0 = λ v. place_for v.was (Begin Call.Poll i) x ≡ Some from in
      begins_told x from waits (subst S (sym same) starts)

  first_told : (w : World) → standing_of w p ≡ outside Rest.Pending → 0 < entries_of p w.entries → (a : Answer) (v : World) → Steps w (beginning p Call.Poll i) a v → Onward (λ y. Told y.behind) (λ b y. Handed b y.behind) a v
  first_told w pending some a v s =
      let t = w.behind in
      let stage : stage_at t.stages p ≡ Outside Rest.Pending = outside_stage (verdict t.machine p) (stage_at t.stages p) Rest.Pending (sym (seen.stands_seen t p) ∙ (sym (ap (λ x. standing_of x p) s.did.stood.seen) ∙ pending)) in
      let there : 0 < entries_of p t.machine.lock.entries = subst (λ x. 0 < entries_of p x.entries) s.did.stood.seen some in
      steps_told w (Begin Call.Poll i) a v (λ u k.
      (let fits : goes_with (Outside Rest.Pending) (place_of t.machine p) ≡ true = ap (λ z. goes_with z (place_of t.machine p)) (sym stage) ∙ s.did.stood.fits.stands p k.inside in
      told_from (stage_at t.stages p) u (place_of t.machine p) k.carries.from stage k.call k.carries.starts (waits_listed (place_of t.machine p) fits (omega (arith, s.did.stood.laws.owners p, there))))) s

starved_behind : (w : World) → Stands w → how_many w.state.starved ≡ starved w.behind.machine.lock
starved_behind w s = ap (λ x. how_many x.state.starved) s.seen ∙ sees.how_many_counted w.behind.machine.lock.places

not_counted : (w : World) (p : ℕ) → Stands w → starved w.behind.machine.lock ≡ 0 → is_starved w.state p ≡ false
not_counted w p s none = ap (λ x. is_starved x.state p) s.seen ∙ sees.none_starved w.behind.machine.lock.places p none

-- ---- the promises

module _ (known : ℕ → Account) (w : World) (p : ℕ) (c : Call) (i : Inputs) (n : ℕ) (a : Answer) (v : World) (stood : Stands w) (stands : Stands v) (runs : Runs known w (moves_of p c i n) (answers_of n a) v) (ended : a ≢ Answer.Stepped) where
  first : is_first_poll (standing_of w p) (Begin c i) (entries_of p w.entries) ≡ true → is_free w.state ≡ true → a ≡ Answer.Ready (Value w.state.value)
  first is free = at_first Steps accounts_after HoldsWell known w p c i n a v (Answer.Ready (Value w.state.value)) (λ e. cc (e)) (λ b x s. s.at_once.ready is ∙ chosen (is_free w.state) (Answer.Ready (Value w.state.value)) Answer.Stepped free) ended runs

  unrefused : i.starving ≡ false → how_many w.state.starved ≡ 0 → Unrefused p i a v.behind
  unrefused patient none =
      let zero : starved w.behind.machine.lock ≡ 0 = sym (starved_behind w stood) ∙ none in
      along Steps accounts_after HoldsWell p i (λ y. Unstarving p i y.behind) (λ b y. Unrefused p i b y.behind) (onward_unstarved p i patient) known n w (beginning p c i) a v (first_unstarved p i patient c w zero) ended runs

  unstarved : i.starving ≡ false → how_many w.state.starved ≡ 0 → is_starved v.state p ≡ false
  unstarved patient none = not_counted v p stands (unrefused patient none).0

  patient : i.starving ≡ false → how_many w.state.starved ≡ 0 → a ≢ refused Refusal.Starved
  patient still none is = true≢false (sym (ap refuses_many is) ∙ (unrefused still none).1)

  tells_nobody : i.starving ≡ false → how_many w.state.starved ≡ 0 → a ≡ Answer.Pending → MarksNobody p w.entries v.entries
  tells_nobody still none is =
      let zero : starved w.behind.machine.lock ≡ 0 = sym (starved_behind w stood) ∙ none in
      let l : List (Entry ℕ) = w.behind.machine.lock.entries in
      let kept = along Steps accounts_after HoldsWell p i (λ y. ring.Calm p i still l y.behind) (λ b y. ring.Done p i still l b y.behind) (ring.onward p i still l) known n w (beginning p c i) a v (ring.first p i still l c w zero (λ q apart h. h)) ended runs is in
      let M : World → World → Type 0 = λ x y. MarksNobody p x.entries y.entries in
      let Left : World → Type 0 = λ x. M x v in
      subst Left (sym stood.seen) (subst (M (view_of w.behind)) (sym stands.seen) kept)

  fresh_so : is_first_poll (standing_of w p) (Begin c i) (entries_of p w.entries) ≡ true → how_many w.state.starved ≡ 0 → fresh.Unrefused p i a v.behind
  fresh_so is none =
      let zero : starved w.behind.machine.lock ≡ 0 = sym (starved_behind w stood) ∙ none in
      let F : World → Type 0 = λ x. is_first_poll (standing_of x p) (Begin c i) (entries_of p x.entries) ≡ true in
      along Steps accounts_after HoldsWell p i (λ y. fresh.Fresh p i y.behind) (λ b y. fresh.Unrefused p i b y.behind) (fresh.onward p i) known n w (beginning p c i) a v (fresh.first p i c w zero (subst F stood.seen is)) ended runs

  first_patient : is_first_poll (standing_of w p) (Begin c i) (entries_of p w.entries) ≡ true → how_many w.state.starved ≡ 0 → a ≢ refused Refusal.Starved
  first_patient is none refused_so = true≢false (sym (ap refuses_many refused_so) ∙ (fresh_so is none).0)

  plain_at_first : is_first_poll (standing_of w p) (Begin c i) (entries_of p w.entries) ≡ true → how_many w.state.starved ≡ 0 → is_starved v.state p ≡ false
  plain_at_first is none = not_counted v p stands (fresh_so is none).1

  hands_on : c ≡ Call.Poll → standing_of w p ≡ outside Rest.Pending → 0 < entries_of p w.entries → is_refusal a ≡ true → 0 < length v.entries → 0 < marked_count v.entries
  hands_on is pending some refused there =
      let R : Call → Type 0 = λ x. Runs known w (moves_of p x i n) (answers_of n a) v in
      let h = along Steps accounts_after HoldsWell p i (λ y. Told p i y.behind) (λ b y. Handed p i b y.behind) (onward_told p i) known n w (beginning p Call.Poll i) a v (first_told p i w pending some) ended (subst R is runs) in
      subst (λ x. 0 < marked_count x.entries) (sym stands.seen) (h refused (subst (λ x. 0 < length x.entries) stands.seen there))

  pub keeps_promises : Promises w p c i a v
  keeps_promises = record {
    first = first;
    solo = λ is solo free. (let R : Call → Type 0 = λ x. Runs known w (moves_of p x i n) (answers_of n a) v in poll_seen known w p i n a v stood stands (subst R is runs) ended solo free);
    notified = λ is told free why. (let R : Call → Type 0 = λ x. Runs known w (moves_of p x i n) (answers_of n a) v in notified_takes known w p i n a v stood stands (subst R is runs) ended told free why);
    unstarved = unstarved;
    tells_nobody = tells_nobody;
    patient = patient;
    first_patient = first_patient;
    first_unstarved = plain_at_first;
    hands_on = hands_on;
    serves_starved = record {
      counted = λ is solo why below. (let R : Call → Type 0 = λ x. Runs known w (moves_of p x i n) (answers_of n a) v in has_or_starved known w p i n a v stood stands (subst R is runs) ended solo why below);
      held = λ is solo why below busy. (let R : Call → Type 0 = λ x. Runs known w (moves_of p x i n) (answers_of n a) v in starved_if_held known w p i n a v stood stands (subst R is runs) ended solo why below busy);
      behind = λ is told rests plain some. (let R : Call → Type 0 = λ x. Runs known w (moves_of p x i n) (answers_of n a) v in waits_behind known w p i n a v stood stands (subst R is runs) ended told rests plain some);
      newcomer = newcomer known w p c i n a v stood stands runs ended;
      only_told = only_told known w p c i n a v stood stands runs ended;
    };
  }
