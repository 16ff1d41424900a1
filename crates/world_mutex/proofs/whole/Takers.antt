-- While somebody is starved, no call takes the lock but the poll of a party that was notified.
use Rattle.world_mutex.proofs.Prelude.{◌≡◌, ◌≢◌, ℕ, ◌+◌, ◌<◌, Bool, true, false, Some, refl, arith, ap, sym, ◌∙◌, subst, get_or-set_same, true≢false, sum_by-set, set, sum_by, is_marked_at, is_party, entries_of, Answer, Call, Inputs, Move, What, Begin, Go, Rest, Stage, Outside, Inside, Forgotten, Within, Account, accounts_after, how_many, inputs_of, going_on, moves_of, answers_of, some_eq, joined_unmarked, beginning, along, Onward, stage_at, stage_after, call_at, polls_again, Table, Acted, acted, End, Found, Done, Free, Held, SomeStarved, AtLimit, NoMemory, Yes, No, Next, Place, Out, Enter, Try, Clear, CancelUncount, CancelLeave, Join, Look, Ask, Count, AskStarved, RefuseLeave, ReleaseNotify, action_of, next_of, place_after, counted, listed, holds, Finds, starved, Lock, OnParties, Guarded, knows, place_of, Moves, answer_by, is_try_kind, IsNotified, put_in, goes_with, outside, Runs, HoldsWell, World, standing_of, Stands, Steps, view_of, verdict, stands_as, None, zero, suc, ◌≤◌}
use Rattle.world_mutex.proofs.of_machine.laws.Seen as sees
use Rattle.world_mutex.proofs.step.Acting.{Acting}
use Rattle.world_mutex.proofs.step.Acting as acting
use Rattle.world_mutex.proofs.table.Seen as seen
use Rattle.world_mutex.proofs.table.Turns.{Turn, turn}
use Rattle.world_mutex.proofs.step.Here.{same_roles}
use Rattle.world_mutex.proofs.step.Stepping.{known_calls, carried}
use Rattle.world_mutex.proofs.whole.Whole.{from_turn, by_step}

-- where such a call comes by, and what it knows of the starved and of its entry
abbrev Quiet : ℕ → Lock → Type 0
Quiet p l = is_marked_at (is_party p) l.entries ≡ false

abbrev Untaken : Place → ℕ → Lock → Type 0
Untaken Enter p l = 0 < starved l
Untaken Try p l = 0 < starved l
Untaken (Join false) p l = 0 < starved l
Untaken (Look false) p l = (0 < starved l) × Quiet p l
Untaken (Count true false) p l = Quiet p l
Untaken Ask p l = Quiet p l
Untaken AskStarved p l = Quiet p l
Untaken (RefuseLeave false) p l = Unit {0}
Untaken Out p l = Unit {0}
Untaken Clear p l = Unit {0}
Untaken ReleaseNotify p l = Unit {0}
Untaken CancelUncount p l = Unit {0}
Untaken CancelLeave p l = Unit {0}
Untaken x p l = ⊥

abbrev Then : Place → Next → ℕ → Lock → Type 0
Then from (Next.Do a x) p k = Untaken x p k
Then from (Next.End e) p k = holds (place_after from (Next.End e)) ≡ 0

goes : (memory : Bool) (p : ℕ) (l k : Lock) (x : Place) (f : Found) → Finds memory (action_of x) f l → OnParties p (action_of x) f l.entries k.entries → starved k + counted x ≡ starved l + counted (place_after x (next_of x f)) → entries_of p l.entries ≡ listed x → Untaken x p l → Then x (next_of x f) p k
goes memory p l k Enter Free e o s own h = absurd (omega (arith, e.1, h))
goes memory p l k Enter (Held b) e o s own h = absurd (omega (arith, e.1, h))
goes memory p l k Enter SomeStarved e o s own h = omega (arith, s, h)
goes memory p l k Enter _ e o s own h = absurd e
goes memory p l k Try Free e o s own h = absurd (omega (arith, e.1, h))
goes memory p l k Try (Held b) e o s own h = refl
goes memory p l k Try SomeStarved e o s own h = refl
goes memory p l k Try _ e o s own h = absurd e
goes memory p l k (Join false) Done e o s own h = (omega (arith, s, h), ap (is_marked_at (is_party p)) o ∙ joined_unmarked p l.entries own)
goes memory p l k (Join false) NoMemory e o s own h = refl
goes memory p l k (Join false) _ e o s own h = absurd e
goes memory p l k (Look false) Free e o s own h = absurd (omega (arith, e.1, h.0))
goes memory p l k (Look false) (Held b) e o s own h = absurd (omega (arith, e.1, h.0))
goes memory p l k (Look false) SomeStarved e o s own h = ap (is_marked_at (is_party p)) o ∙ h.1
goes memory p l k (Look false) _ e o s own h = absurd e
goes memory p l k (Count true false) Done e o s own h = ap (is_marked_at (is_party p)) o ∙ h
goes memory p l k (Count true false) AtLimit e o s own h = tt
goes memory p l k (Count true false) _ e o s own h = absurd e
goes memory p l k Ask Yes e o s own h = absurd (true≢false (sym o.0 ∙ h))
goes memory p l k Ask No e o s own h = refl
goes memory p l k Ask _ e o s own h = absurd e
goes memory p l k AskStarved Yes e o s own h = absurd (true≢false (sym o.0 ∙ h))
goes memory p l k AskStarved No e o s own h = refl
goes memory p l k AskStarved _ e o s own h = absurd e
goes memory p l k (RefuseLeave false) f e o s own h = refl
goes memory p l k Out f e o s own h = refl
goes memory p l k Clear f e o s own h = tt
goes memory p l k ReleaseNotify f e o s own h = refl
goes memory p l k CancelUncount f e o s own h = tt
goes memory p l k CancelLeave f e o s own h = refl
goes memory p l k _ f e o s own h = absurd h

-- where a call begins
abbrev Opens : Stage → What → Within → Place → Place → Type 0
Opens s (Begin c i) w x from = (p : ℕ) (l : Lock) → 0 < starved l → (c ≡ Call.Poll → s ≡ Outside Rest.Pending → Quiet p l) → Untaken from p l
Opens s (Go i) w x from = x ≡ from

opens : (s : Stage) (what : What) (w : Within) (x : Place) → goes_with s x ≡ true → call_at knows s what ≡ Some w → polls_again s what ≡ false → put_in what ≡ None → Turn Opens s what w x
opens = turn Opens (record {
  lock = λ i p l some q. some;
  try = λ i p l some q. some;
  poll = λ i p l some q. some;
  poll_listed = λ i p l some q. q refl refl;
  poll_starved = λ i p l some q. q refl refl;
  abandon = λ i p l some q. tt;
  cancel = λ i p l some q. tt;
  cancel_starved = λ i p l some q. tt;
  release = λ i p l some q. tt;
  go = λ w x i h. refl;
})

ends_not : (trying : Bool) (v : ℕ) (e : End) → answer_by trying v (Next.End e) ≡ Answer.Stepped → ⊥
ends_not true v End.Got h = cc h
ends_not false v End.Got h = cc h
ends_not trying v End.Pending h = cc h
ends_not trying v End.NotFree h = cc h
ends_not trying v End.Granted h = cc h
ends_not trying v End.Waiting h = cc h
ends_not trying v End.GivenBack h = cc h
ends_not trying v (End.Refused r) h = cc h

not_so : (b : Bool) → (b ≡ true → ⊥) → b ≡ false
not_so true n = absurd (n refl)
not_so false n = refl

none_of : (n : ℕ) → n ≤ 1 → (n ≡ 1 → ⊥) → n ≡ 0
none_of zero low n = refl
none_of (suc zero) low n = absurd (n refl)
none_of (suc (suc m)) low n = absurd (omega (arith, low))

holds_low : (x : Place) → holds x ≤ 1
holds_low x = grind arith

module _ (p : ℕ) (i : Inputs) where
  pub record Out_of (t : Table Guarded) : Type 0 where
    pub call : Within
    pub inside : stage_at t.stages p ≡ Inside call
    pub untaken : Untaken (place_of t.machine p) p t.machine.lock

  abbrev pub Ended : Answer → Table Guarded → Type 0
  Ended b t = holds (place_of t.machine p) ≡ 0

  abbrev OnTo : Answer → Table Guarded → Type 0
  OnTo = Onward Out_of Ended

  answered : (trying : Bool) (v : ℕ) (from : Place) (n : Next) (a : Answer) (u : Table Guarded) (w : Within) → a ≡ answer_by trying v n → place_of u.machine p ≡ place_after from n → stage_at u.stages p ≡ stage_after Rest.Holding w a → Then from n p u.machine.lock → OnTo a u
  answered trying v from (Next.Do b x) a u w is to stage h = (
      let F : Place → Type 0 = λ y. Untaken y p u.machine.lock in
      record { going = λ e. record { call = w; inside = stage ∙ ap (stage_after Rest.Holding w) is; untaken = subst F (sym to) h }; ended = λ e. absurd (e is) }
      )
  answered trying v from (Next.End e) a u w is to stage h = record { going = λ s. absurd (ends_not trying v e (sym is ∙ s)); ended = λ s. ap holds to ∙ h }

  acts_so : (t u : Table Guarded) (what : What) (a : Answer) (w : Within) (k : Acting t u (record { party = p; what = what }) a w) → Untaken k.carries.from p t.machine.lock → OnTo a u
  acts_so t u what a w k untaken =
      let m : Move = record { party = p; what = what } in
      let from = k.carries.from in
      let did = k.carries.carried.acts in
      let there = acting.there t u m a w k in
      let to : Place = place_after from (next_of from did.found) in
      let same = same_roles (stage_at t.stages p) w (place_of t.machine p) from k.here.begins in
      let own : entries_of p t.machine.lock.entries ≡ listed from = k.old_laws.owners p ∙ sym same.standing in
      let places : u.machine.lock.places ≡ set t.machine.lock.places p to = did.places ∙ ap (λ n. set t.machine.lock.places p (place_after from n)) did.next_is in
      let sum : sum_by counted (set t.machine.lock.places p to) + counted (place_of t.machine p) ≡ sum_by counted t.machine.lock.places + counted to = sum_by-set counted t.machine.lock.places p to Place.Out there in
      let sums : starved u.machine.lock + counted from ≡ starved t.machine.lock + counted to = omega (arith, sum, ap (sum_by counted) places, same.starving) in
      let on : Then from (next_of from did.found) p u.machine.lock = goes (inputs_of what).memory p t.machine.lock u.machine.lock from did.found did.finds did.list sums own untaken in
      let N : Next → Type 0 = λ n. Then from n p u.machine.lock in
      let stage : stage_at u.stages p ≡ stage_after Rest.Holding w a = ap (λ ss. stage_at ss p) k.stages ∙ get_or-set_same t.stages p (stage_after Rest.Holding w a) Forgotten k.inside in
      answered (is_try_kind w.kind) t.machine.value from k.carries.next a u w k.carries.answer (acting.lands_at t u m a w k) stage (subst N (sym did.next_is) on)

  pub onward : (x : World) (a : Answer) (v : World) → Out_of x.behind → Steps x (going_on p i) a v → Onward (λ y. Out_of y.behind) (λ b y. Ended b y.behind) a v
  onward x a v g s =
      let t = x.behind in
      let u = v.behind in
      let m : Move = going_on p i in
      let e : call_at knows (stage_at t.stages p) (Go i) ≡ Some g.call = ap (λ z. call_at knows z (Go i)) g.inside in
      let f : polls_again (stage_at t.stages p) (Go i) ≡ false = ap (λ z. polls_again z (Go i)) g.inside in
      let d : Acted known_calls Rest.Holding Moves g.call t m a u = acted known_calls Rest.Holding Moves t u m a g.call e f s.did.step in
      let k : Acting t u m a g.call = carried t u m a s.did.stood.laws s.did.stood.fits s.did.stands.laws s.did.stands.fits g.call e f d refl in
      let F : Place → Type 0 = λ y. Untaken y p t.machine.lock in
      let o = acts_so t u (Go i) a g.call k (subst F (from_turn t u m a g.call k) g.untaken) in
      record { going = o.going; ended = o.ended }

  still_out : (b : Answer) (t : Table Guarded) → (b ≡ Answer.Stepped → ⊥) → holds (place_of t.machine p) ≡ 0 → OnTo b t
  still_out b t never plain = record { going = λ s. absurd (never s); ended = λ s. plain }

  pub first : (c : Call) (x : World) → 0 < starved x.behind.machine.lock → holds (place_of x.behind.machine p) ≡ 0 → (c ≡ Call.Poll → stage_at x.behind.stages p ≡ Outside Rest.Pending → Quiet p x.behind.machine.lock) → (a : Answer) (v : World) → Steps x (beginning p c i) a v → Onward (λ y. Out_of y.behind) (λ b y. Ended b y.behind) a v
  first c x some plain quiet a v s =
      let t = x.behind in
      let u = v.behind in
      let m : Move = beginning p c i in
      let o = by_step t u m a s.did.stood.laws s.did.stood.fits s.did.stands.laws s.did.stands.fits OnTo
      (still_out _ t (λ e. cc e) plain) (still_out _ t (λ e. cc e) plain) (λ n e. still_out _ u (λ y. cc y) (ap (λ (g : Guarded). holds (place_of g p)) e ∙ plain))
      (λ w k. (
      let turned = opens (stage_at t.stages p) (Begin c i) w (place_of t.machine p) (k.old_fits.stands p k.inside) k.call k.first k.none in
      let P : Place → Type 0 = Opens (stage_at t.stages p) (Begin c i) w (place_of t.machine p) in
      acts_so t u (Begin c i) a w k (subst P (some_eq (sym turned.starts ∙ k.carries.starts)) turned.holds p t.machine.lock some quiet)
      )) s.did.step in
      record { going = o.going; ended = o.ended }

-- ---- as callers see it

module _ (known : ℕ → Account) (w : World) (p : ℕ) (c : Call) (i : Inputs) (n : ℕ) (a : Answer) (v : World) (stood : Stands w) (stands : Stands v) (runs : Runs known w (moves_of p c i n) (answers_of n a) v) (ended : a ≢ Answer.Stepped) where
  pub only_told : 0 < how_many w.state.starved → w.state.holder ≢ Some p → (c ≡ Call.Poll → IsNotified w p → ⊥) → v.state.holder ≢ Some p
  only_told some had_not untold has =
      let t = w.behind in
      let there : 0 < starved t.machine.lock = omega (arith, some, ap (λ x. how_many x.state.starved) stood.seen, sees.how_many_counted t.machine.lock.places) in
      let plain : holds (place_of t.machine p) ≡ 0 = none_of (holds (place_of t.machine p)) (holds_low (place_of t.machine p)) (λ one. had_not (ap (λ x. x.state.holder) stood.seen ∙ sees.holds_it t.machine.lock.places p stood.laws.one_holder one)) in
      let quiet : c ≡ Call.Poll → stage_at t.stages p ≡ Outside Rest.Pending → Quiet p t.machine.lock = λ is stage. not_so (is_marked_at (is_party p) t.machine.lock.entries) (λ marked. untold is (
      let pending : standing_of (view_of t) p ≡ outside Rest.Pending = seen.stands_seen t p ∙ ap (stands_as (verdict t.machine p)) stage in
      let told : IsNotified (view_of t) p = record { pending = pending; marked = marked } in
      subst (λ x. IsNotified x p) (sym stood.seen) told
      )) in
      let out : holds (place_of v.behind.machine p) ≡ 0 = along Steps accounts_after HoldsWell p i (λ y. Out_of p i y.behind) (λ b y. Ended p i b y.behind) (onward p i) known n w (beginning p c i) a v (first p i c w there plain quiet) ended runs in
      let holding : holds (place_of v.behind.machine p) ≡ 1 = sees.is_held_by v.behind.machine.lock.places p (sym (ap (λ x. x.state.holder) stands.seen) ∙ has) in
      omega (arith, out, holding)
