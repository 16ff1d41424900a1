-- No wrong run of a once-cell is legal.
use Rattle.std.proofs.Common.{◌≡◌, ℕ, ◌+◌, ◌⊎◌, inl, inr, if◌then◌else◌, Bool, true, false, List, Some, None, refl, arith, ap, sym, ◌∙◌, subst}
use Rattle.std.proofs.lemmas.Bool.{true≢false}
use Rattle.lock_event.specs.declared.event.Entry.{Entry}
use Rattle.lock_event.specs.declared.event.Mark.TheVariants.{Waiting}
use Rattle.lock_event.specs.Lists.{mark_at, is_marked_at, marked_count}
use Rattle.lock_event.proofs.Counts.{marked_count-without_marked}
use Rattle.world_base.specs.queue.Parties.{is_party}
use Rattle.world_base.specs.declared.moves.Answer.{Answer}
use Rattle.world_base.specs.declared.moves.Answer.TheVariants as answer
use Rattle.world_base.specs.declared.moves.Got.TheVariants as got
use Rattle.world_base.specs.declared.moves.Made.TheVariants as made
use Rattle.world_base.specs.declared.moves.Move.{Move}
use Rattle.world_base.specs.declared.moves.What.{What}
use Rattle.lock_program.specs.declared.refusal.Refusal.{Refusal}
use Rattle.lock_program.specs.declared.refusal.Refusal.TheVariants as refusal
use Rattle.world_base.specs.declared.standing.Rest.TheVariants.{Pending}
use Rattle.lock_program.specs.Refusals.{number_of}
use Rattle.world_base.specs.Frame.{is_drop}
use Rattle.world_base.specs.Standings.{Standing, outside, inside, is_decided, is_possible, inputs_of, refused}
use Rattle.world_base.specs.Steps.{Effect, nothing, changes, does, joins, notifies, asks, list_after}
use Rattle.world_base.proofs.Equations.{some_eq, none_some}
use Rattle.sync_program.specs.declared.once_cell.ListName.{ListName}
use Rattle.sync_program.specs.declared.once_cell.ListName.TheVariants.{Active, Passive}
use Rattle.world_once_cell.specs.declared.program.words.Content.{Content}
use Rattle.world_once_cell.specs.declared.program.words.Content.TheVariants.{Empty, BeingMade, Full}
use Rattle.world_once_cell.specs.machine.Seats.{Task, no_task, initializes, sets, waits_only, fills_with, failed}
use Rattle.world_once_cell.specs.program.Effects.{Change, begins, fills, empties, content_after}
use Rattle.world_once_cell.specs.machine.Machine.{is_maker}
use Rattle.world_once_cell.proofs.of_machine.laws.Contents.{maker_is, is_its_maker}
use Rattle.world_once_cell.specs.State.{World, list_in, is_empty, standing_of, task_of}
use Rattle.world_once_cell.specs.Tasks.{task_in, given, list_for}
use Rattle.world_once_cell.specs.Legal.{Legal, HasItsOwn, IsCause, IsOutOfMemory, MayTell, IsAllowed, IsPendingMaker, WaitsInList}
use Rattle.world_once_cell.specs.AtOnce.{would_make}
use Rattle.world_once_cell.specs.Bound.{ComesTo}
use Rattle.world_once_cell.proofs.Values.{stays_full}
use Rattle.test_definitions.proofs.cell.wrong_runs.Goals as goal

chosen : (b c : Bool) (x y : Answer) → b ≡ c → (if b then x else y) ≡ (if c then x else y)
chosen b c x y e = ap (λ z. if z then x else y) e

possible_by : (a b : Answer) → a ≡ b → is_possible b ≡ true → is_possible a ≡ true
possible_by a b e h = ap is_possible e ∙ h

pub returns-clause-enters_twice : goal.returns-clause-enters_twice
returns-clause-enters_twice c = λ r. r.other (stays_full r.step.old r.step.move r.step.answer r.step.new r.legal r.value r.full)

made_empty : (n : ℕ) (c : Content) → c ≡ BeingMade n → c ≡ Empty → ⊥
made_empty n c e f = let never : BeingMade n ≡ Empty = sym e ∙ f in cc never

same_maker : (n k : ℕ) (c : Content) → c ≡ BeingMade n → c ≡ BeingMade k → k ≡ n
same_maker n k c e f = let same : BeingMade n ≡ BeingMade k = sym e ∙ f in cc same

-- making ends by its maker alone, dropped or failed
ends_so : (w : World) (m : Move) (d : Effect Change ListName) (c : Content) (n : ℕ) → IsAllowed w m d → c ≡ content_after m.party d w.cell → w.cell ≡ BeingMade n → c ≡ Empty → (is_drop m.what ≡ true) ⊎ (task_of w n ≡ failed)
ends_so w m nothing c n ok e made empty = absurd (made_empty n w.cell made (sym e ∙ empty))
ends_so w m (does list f) c n ok e made empty = absurd (made_empty n w.cell made (sym e ∙ empty))
ends_so w m (changes begins) c n ok e made empty = absurd (made_empty n w.cell made ok.0)
ends_so w m (changes (fills v)) c n ok e made empty = let never : Full v ≡ Empty = sym e ∙ empty in absurd (cc never)
ends_so w m (changes empties) c n ok e made empty = elim ok.1 as (λ _. (is_drop m.what ≡ true) ⊎ (task_of w n ≡ failed)) [ inl d ↦ inl d | inr f ↦ inr (ap (task_of w) (sym (same_maker n m.party w.cell made ok.0)) ∙ f) ]

pub returns-clause-ends_by_nothing : goal.returns-clause-ends_by_nothing
returns-clause-ends_by_nothing c = λ r.
    let one = r.legal.one_change in
    elim (ends_so r.step.old r.step.move one.effect r.step.new.cell r.maker one.allowed one.cell r.making r.ended) as (λ _. ⊥) [ inl d ↦ true≢false (sym d ∙ r.not_dropped) | inr f ↦ r.not_failed f ]

made_full : (n v : ℕ) (c : Content) → c ≡ BeingMade n → c ≡ Full v → ⊥
made_full n v c e f = let never : BeingMade n ≡ Full v = sym e ∙ f in cc never

fills_so : (w : World) (m : Move) (d : Effect Change ListName) (c : Content) (u v : ℕ) → IsAllowed w m d → c ≡ content_after m.party d w.cell → w.cell ≡ BeingMade m.party → task_of w m.party ≡ fills_with v → c ≡ Full u → u ≡ v
fills_so w m nothing c u v ok e made gave full = absurd (made_full m.party u w.cell made (sym e ∙ full))
fills_so w m (does list f) c u v ok e made gave full = absurd (made_full m.party u w.cell made (sym e ∙ full))
fills_so w m (changes begins) c u v ok e made gave full = let never : BeingMade m.party ≡ Full u = sym e ∙ full in absurd (cc never)
fills_so w m (changes empties) c u v ok e made gave full = let never : Empty ≡ Full u = sym e ∙ full in absurd (cc never)
fills_so w m (changes (fills z)) c u v ok e made gave full =
    let one : Full z ≡ Full u = sym e ∙ full in
    let two : fills_with z ≡ fills_with v = sym ok.1 ∙ gave in
    cc (one, two)

pub returns-clause-fills_another : goal.returns-clause-fills_another
returns-clause-fills_another c = λ r.
    let one = r.legal.one_change in
    r.other (fills_so r.step.old r.step.move one.effect r.step.new.cell r.entered r.given one.allowed one.cell (maker_is r.step.old.cell r.step.move.party r.making) r.gave r.fills)

pub returns-clause-makes_another : goal.returns-clause-makes_another
returns-clause-makes_another c = λ r.
    let none : task_in r.step.move.what ≡ None = ap task_in r.goes in
    let input : (inputs_of r.step.move.what).made ≡ made.Value r.given = ap (λ (z : What). (inputs_of z).made) r.goes ∙ r.gave in
    elim (r.legal.knows_task.going none r.possible r.still_open) as (λ _. ⊥) [
      | inl same ↦ (let never : fills_with r.kept ≡ initializes = sym r.goes_on ∙ (same ∙ r.asked) in cc never)
      | inr gave ↦ (let so : fills_with r.kept ≡ given initializes (made.Value r.given) = sym r.goes_on ∙ (gave.2 ∙ (ap (λ z. given z (inputs_of r.step.move.what).made) r.asked ∙ ap (given initializes) input)) in r.other (cc so))
    ]

pub returns-clause-ready_too_soon : goal.returns-clause-ready_too_soon
returns-clause-ready_too_soon c = λ r. r.not_full (r.legal.carries.ready _ r.decides).0

-- who is answered Pending makes
pends_so : (t : Task) (p : ℕ) (a : Answer) (v : World) → ComesTo t p a v → a ≡ answer.Pending → v.cell ≡ BeingMade p
pends_so (fills_with x) p a v h e = let never = sym h.0 ∙ e in absurd (cc never)
pends_so failed p a v h e = let never = sym h.0 ∙ e in absurd (cc never)
pends_so no_task p a v h e = let never = sym h.0 ∙ e in absurd (cc never)
pends_so initializes p a v h e = h.1
pends_so (sets x) p a v h e = h.1
pends_so waits_only p a v h e = h.1

pub returns-clause-waits_without_making : goal.returns-clause-waits_without_making
returns-clause-waits_without_making c = λ r. r.no_maker (pends_so _ r.whole.party r.whole.answer r.whole.new (r.kept.first r.first r.empty) r.pending)

waits_active : (m : Move) (v : World) → IsPendingMaker m v ⊎ WaitsInList m v → list_for (task_of v m.party) ≡ Some Active → (v.cell ≡ BeingMade m.party → ⊥) → mark_at (is_party m.party) v.active ≡ None → ⊥
waits_active m v (inl k) its other un = other k.maker
waits_active m v (inr k) its other un = by_list k.list (some_eq (sym k.its ∙ its)) k.waits where
  by_list : (list : ListName) → list ≡ Active → mark_at (is_party m.party) (list_in list v) ≡ Some Waiting → ⊥
  by_list Active e w = none_some (sym un ∙ w)
  by_list Passive e w = cc e

pub returns-clause-waits_in_passive : goal.returns-clause-waits_in_passive
returns-clause-waits_in_passive c = λ r. waits_active r.step.move r.step.new (r.legal.waits.waiting r.pending) (ap list_for r.task) r.no_maker r.unlisted

waits_passive : (m : Move) (v : World) → IsPendingMaker m v ⊎ WaitsInList m v → task_of v m.party ≡ waits_only → mark_at (is_party m.party) v.passive ≡ None → ⊥
waits_passive m v (inl k) task un = let never : initializes ≡ waits_only = sym k.task ∙ task in cc never
waits_passive m v (inr k) task un = by_list k.list (some_eq (sym k.its ∙ ap list_for task)) k.waits where
  by_list : (list : ListName) → list ≡ Passive → mark_at (is_party m.party) (list_in list v) ≡ Some Waiting → ⊥
  by_list Passive e w = none_some (sym un ∙ w)
  by_list Active e w = cc e

pub returns-clause-waits_in_active : goal.returns-clause-waits_in_active
returns-clause-waits_in_active c = λ r. waits_passive r.step.move r.step.new (r.legal.waits.waiting r.pending) r.task r.unlisted

pub returns-clause-tries_in_vain : goal.returns-clause-tries_in_vain
returns-clause-tries_in_vain c = λ r.
    let so : answer.None ≡ answer.Stepped = sym r.none ∙ ((r.legal.tried r.tries (possible_by r.step.answer answer.None r.none refl)).answered ∙ chosen (is_empty r.step.old.cell) true answer.Stepped answer.None r.empty) in cc so

pub returns-clause-tries_while_made : goal.returns-clause-tries_while_made
returns-clause-tries_while_made c = λ r.
    let so : answer.Stepped ≡ answer.None = sym r.goes_on ∙ ((r.legal.tried r.tries (possible_by r.step.answer answer.Stepped r.goes_on refl)).answered ∙ chosen (is_empty r.step.old.cell) false answer.Stepped answer.None r.taken) in cc so

pub returns-clause-loses_its_own : goal.returns-clause-loses_its_own
returns-clause-loses_its_own c = λ r. (r.legal.carries.ready _ r.decides).1 r.own r.set

pub returns-clause-stays_made : goal.returns-clause-stays_made
returns-clause-stays_made c = λ r. made_empty r.step.move.party r.step.new.cell r.left (r.legal.dropped r.drops r.possible r.making).empty

pub returns-clause-tells_nobody : goal.returns-clause-tells_nobody
returns-clause-tells_nobody c = λ r. let some = (r.kept.dropped r.drops r.was_pending r.making).1.notified r.some in absurd (omega (arith, some, r.none_told))

pub returns-clause-passes_over_in_vain : goal.returns-clause-passes_over_in_vain
returns-clause-passes_over_in_vain c = λ r. r.no_maker (pends_so _ r.whole.party r.whole.answer r.whole.new (r.kept.solo r.polls r.solo.pending r.solo.marked r.empty) r.pending)

pub returns-clause-keeps_its_told : goal.returns-clause-keeps_its_told
returns-clause-keeps_its_told c = λ r. let some = r.kept.hands_on r.polls r.was_pending r.list r.listed r.refused r.some in absurd (omega (arith, some, r.none_told))

pub returns-clause-left_untold : goal.returns-clause-left_untold
returns-clause-left_untold c = λ r. true≢false (sym (r.sound.told r.value r.full r.none_tells r.list r.party r.stands r.listed) ∙ r.unmarked)

-- what a party has that stands so after a legal step
has_there : (w : World) (m : Move) (a : Answer) (v : World) (s : Standing) → Legal w m a v → standing_of v m.party ≡ s → HasItsOwn v m.party s
has_there w m a v s l e = let P : Standing → Type 0 = HasItsOwn v m.party in subst P e (l.leaves_clear.each m.party)

pub returns-clause-goes_on_undecided : goal.returns-clause-goes_on_undecided
returns-clause-goes_on_undecided c = λ r.
    let own = has_there r.step.old r.step.move r.step.answer r.step.new (inside r.within None) r.legal r.undecided in
    elim r.kind as (λ _. ⊥) [ inl e ↦ own.0 e | inr e ↦ own.1 e ]

pub returns-clause-drops_listed : goal.returns-clause-drops_listed
returns-clause-drops_listed c = λ r.
    let own = has_there r.step.old r.step.move r.step.answer r.step.new (inside r.within (Some answer.GivenBack)) r.legal r.dropped in
    let none = own.lists r.list in absurd (omega (arith, none, r.listed))

pub returns-clause-makes_and_waits : goal.returns-clause-makes_and_waits
returns-clause-makes_and_waits c = λ r.
    let own = has_there r.step.old r.step.move r.step.answer r.step.new (outside Pending) r.legal r.pending in
    let none = own.alone r.making r.list in absurd (omega (arith, none, r.listed))

-- what is refused for memory has that cause
memory_cause : (w : World) (m : Move) (v : World) (r : Refusal) → number_of refusal.Memory ≡ number_of r → IsCause w m v r → IsOutOfMemory w m v
memory_cause w m v refusal.Memory e h = h
memory_cause w m v _ e h = absurd (omega arith)

pub returns-clause-refuses_maker : goal.returns-clause-refuses_maker
returns-clause-refuses_maker c = λ r.
    let why = r.legal.refused_for_cause.cause _ r.refusal in
    let cause = memory_cause r.step.old r.step.move r.step.new why.0 why.1 why.2 in
    true≢false (sym r.making ∙ cause.unmade)

-- who may tell is decided
tells_decided : (w : World) (m : Move) (list : ListName) (s : Standing) → MayTell w m list s → is_decided s ≡ true
tells_decided w m list (inside u (Some (answer.Ready got.Failed))) h = refl
tells_decided w m list (inside u (Some answer.GivenBack)) h = refl
tells_decided w m list (inside u (Some (answer.Refused n))) h = refl
tells_decided w m list _ h = absurd h

-- whom this party may tell that did so
told_there : (w : World) (m : Move) (d : Effect Change ListName) (list : ListName) (n : ℕ) (s : Standing) → IsAllowed w m d → d ≡ does list (notifies n) → standing_of w m.party ≡ s → MayTell w m list s
told_there w m d list n s ok e stands =
    let P : Effect Change ListName → Type 0 = IsAllowed w m in
    let Q : Standing → Type 0 = MayTell w m list in
    let here : P (does list (notifies n)) = subst P e ok in subst Q stands here.1

pub returns-clause-marks_undecided : goal.returns-clause-marks_undecided
returns-clause-marks_undecided c = λ r.
    let may = told_there r.step.old r.step.move r.legal.one_change.effect r.list r.many (standing_of r.step.old r.step.move.party) r.legal.one_change.allowed r.marks refl in
    true≢false (sym (tells_decided r.step.old r.step.move r.list (standing_of r.step.old r.step.move.party) may) ∙ r.undecided)

pub returns-clause-grants_nothing : goal.returns-clause-grants_nothing
returns-clause-grants_nothing c = λ r.
    let own = has_there r.step.old r.step.move r.step.answer r.step.new (inside r.within (Some (answer.Granted r.got))) r.legal r.granted in
    elim own.cell as (λ _. ⊥) [ inl made ↦ made_empty r.step.move.party r.step.new.cell made r.empty | inr full ↦ (let never : Full own.value ≡ Empty = sym full ∙ r.empty in cc never) ]

pub returns-clause-has_another_back : goal.returns-clause-has_another_back
returns-clause-has_another_back c = λ r.
    let own = has_there r.step.old r.step.move r.step.answer r.step.new (inside r.within (Some (answer.Ready (got.Taken r.back)))) r.legal r.taken in
    let same : sets r.back ≡ sets r.own = sym own.1 ∙ r.set in r.other (cc same)

pub returns-clause-fails_untold : goal.returns-clause-fails_untold
returns-clause-fails_untold c = λ r. let some = r.legal.tells_others.failed r.failed r.some in absurd (omega (arith, some, r.none_told))

pub returns-clause-drops_untold : goal.returns-clause-drops_untold
returns-clause-drops_untold c = λ r. let some = r.legal.tells_others.dropped r.within r.dropped r.possible r.some in absurd (omega (arith, some, r.none_told))

pub returns-clause-refused_untold : goal.returns-clause-refused_untold
returns-clause-refused_untold c = λ r. let some = r.legal.tells_others.refused r.within r.list r.refusal r.possible r.its r.some in absurd (omega (arith, some, r.none_told))

pub returns-clause-waits_though_told : goal.returns-clause-waits_though_told
returns-clause-waits_though_told c = λ r.
    let so : answer.Pending ≡ answer.Stepped = sym r.pending ∙ ((r.legal.listed r.polls r.was_pending r.list r.listed).answered ∙ chosen (is_marked_at (is_party r.step.move.party) (list_in r.list r.step.old)) true answer.Stepped answer.Pending r.marked) in cc so

pub returns-clause-goes_on_untold : goal.returns-clause-goes_on_untold
returns-clause-goes_on_untold c = λ r.
    r.goes_on ((r.legal.listed r.polls r.was_pending r.list r.listed).answered ∙ chosen (is_marked_at (is_party r.step.move.party) (list_in r.list r.step.old)) false answer.Stepped answer.Pending r.unmarked)

pub returns-clause-waits_for_full : goal.returns-clause-waits_for_full
returns-clause-waits_for_full c = λ r.
    let ready = r.kept.full r.polls r.was_pending r.list r.value r.marked r.full in
    elim r.in_vain as (λ _. ⊥) [ inl e ↦ (let never = sym e ∙ ready in cc never) | inr e ↦ (let never = sym e ∙ ready in cc never) ]

-- who makes isn't refused
never_refused : (t : Task) (p : ℕ) (a : Answer) (v : World) → ComesTo t p a v → a ≡ refused refusal.Memory → ⊥
never_refused (fills_with x) p a v h e = let never = sym h.0 ∙ e in cc never
never_refused failed p a v h e = let never = sym h.0 ∙ e in cc never
never_refused no_task p a v h e = let never = sym h.0 ∙ e in cc never
never_refused initializes p a v h e = let never = sym h.0 ∙ e in cc never
never_refused (sets x) p a v h e = let never = sym h.0 ∙ e in cc never
never_refused waits_only p a v h e = let never = sym h.0 ∙ e in cc never

pub returns-clause-refused_to_make : goal.returns-clause-refused_to_make
returns-clause-refused_to_make c = λ r. never_refused _ r.whole.party r.whole.answer r.whole.new (r.kept.solo r.polls r.was_pending r.marked r.empty) r.is_refused

pub returns-clause-left_to_nobody : goal.returns-clause-left_to_nobody
returns-clause-left_to_nobody c = λ r. elim (r.sound.told_or_due r.empty r.party r.stands r.listed) as (λ _. ⊥) [ inl some ↦ absurd (omega (arith, some, r.none_told)) | inr q ↦ true≢false (sym q.1.due ∙ r.none_due q.0) ]

pub returns-clause-tells_anyone : goal.returns-clause-tells_anyone
returns-clause-tells_anyone c = λ r. told_there r.step.old r.step.move r.legal.one_change.effect r.list r.many (inside r.within (Some (answer.Ready (got.Value r.value)))) r.legal.one_change.allowed r.tells r.ready

not_active : Passive ≡ Active → ⊥
not_active e = cc e

pub returns-clause-tells_passive : goal.returns-clause-tells_passive
returns-clause-tells_passive c = λ r. elim r.decided as (λ _. ⊥) [
  | inl e ↦ not_active (told_there r.step.old r.step.move r.legal.one_change.effect Passive r.many (inside r.within (Some answer.GivenBack)) r.legal.one_change.allowed r.tells e)
  | inr e ↦ not_active (told_there r.step.old r.step.move r.legal.one_change.effect Passive r.many (inside r.within (Some (answer.Ready got.Failed))) r.legal.one_change.allowed r.tells e)
]

pub returns-clause-loses_what_was_made : goal.returns-clause-loses_what_was_made
returns-clause-loses_what_was_made c = λ r.
    let asked = r.legal.asked r.within r.undecided r.possible r.making (ap would_make r.task) r.unlisted in
    r.lost (asked.task ∙ (ap (λ z. given z (inputs_of r.step.move.what).made) r.task ∙ ap (given initializes) r.gave))

pub returns-clause-joins_unlooked : goal.returns-clause-joins_unlooked
returns-clause-joins_unlooked c = λ r. r.joined (r.legal.waiting r.first).lists.passive

told_goes : (p : ℕ) (l m : List (Entry ℕ)) → is_marked_at (is_party p) l ≡ true → m ≡ list_after p asks l → marked_count m + 1 ≡ marked_count l
told_goes p l m marked e = rw (e, marked) (marked_count-without_marked (is_party p) l marked)

pub returns-clause-keeps_its_mark : goal.returns-clause-keeps_its_mark
returns-clause-keeps_its_mark c = λ r.
    let fewer = told_goes r.step.move.party (list_in r.list r.step.old) (list_in r.list r.step.new) r.marked (r.legal.listed r.polls r.was_pending r.list r.listed).asked in
    absurd (omega (arith, fewer, r.stays))

pub returns-clause-drops_on : goal.returns-clause-drops_on
returns-clause-drops_on c = λ r.
    let so : answer.Stepped ≡ answer.GivenBack = sym r.goes_on ∙ r.legal.gone r.drops (possible_by r.step.answer answer.Stepped r.goes_on refl) r.other in cc so

pub returns-clause-lingers_with_value : goal.returns-clause-lingers_with_value
returns-clause-lingers_with_value c = λ r. r.unfilled (r.legal.filled r.value r.possible r.making r.gave)

pub returns-clause-makes_after_failure : goal.returns-clause-makes_after_failure
returns-clause-makes_after_failure c = λ r. made_empty r.step.move.party r.step.new.cell r.goes_on (r.legal.failed r.possible r.making r.failed)

pub returns-clause-maker_joins : goal.returns-clause-maker_joins
returns-clause-maker_joins c = λ r.
    let P : Effect Change ListName → Type 0 = IsAllowed r.step.old r.step.move in
    let ok : P (does r.list joins) = subst P r.joined r.legal.one_change.allowed in
    true≢false (sym r.making ∙ ok.1)

pub returns-clause-made_by_nobody : goal.returns-clause-made_by_nobody
returns-clause-made_by_nobody c = λ r.
    let there = r.sound.maker_there r.party (ap (λ e. is_maker e r.party) r.making ∙ is_its_maker r.party) in
    absurd (omega (arith, there, r.past))

pub returns-clause-fills_untold : goal.returns-clause-fills_untold
returns-clause-fills_untold c = λ r. true≢false (sym (r.legal.told_all r.value r.possible r.ended r.filled r.waiter r.listed) ∙ r.unmarked)

pub returns-clause-two_tellers : goal.returns-clause-two_tellers
returns-clause-two_tellers c = λ r. r.apart (r.sound.one_teller r.first r.second r.one r.another r.fills r.fills_too)

pub returns-clause-ends_late : goal.returns-clause-ends_late
returns-clause-ends_late c = λ r. (let few = r.soon r.party r.steps 3 r.new r.decided r.goes_on in absurd (omega (arith, few)))
