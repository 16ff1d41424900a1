-- A first poll never takes the lock while somebody is starved: it is pending and its party starved at its end, or it is refused.
use Rattle.world_mutex.proofs.Prelude.{◌≡◌, ◌≢◌, ℕ, ◌+◌, ◌<◌, ◌==◌, ◌&&◌, ◌⊎◌, inl, inr, if◌then◌else◌, Bool, true, false, Some, refl, other_test, arith, ap, sym, ◌∙◌, subst, get_or-set_same, true≢false, sum_by-set, set, sum_by, is_none, entries_of, Answer, Call, Value, Inputs, Move, What, Begin, Go, Rest, Inside, Forgotten, Within, Account, accounts_after, is_refusal, how_many, inputs_of, going_on, moves_of, answers_of, beginning, along, Onward, stage_at, stage_after, call_at, polls_again, Table, Acted, acted, End, Next, Place, next_of, place_after, counted, listed, starved, Guarded, knows, place_of, Moves, answer_by, is_try_kind, is_first_poll, is_free, Runs, HoldsWell, World, standing_of, is_starved, Stands, Steps, view_of}
use Rattle.world_mutex.proofs.of_machine.laws.Seen as sees
use Rattle.world_mutex.proofs.of_machine.legal.Untold.{NewAt, NewThen, goes}
use Rattle.world_mutex.proofs.step.Acting.{Acting}
use Rattle.world_mutex.proofs.step.Acting as acting
use Rattle.world_mutex.proofs.step.AtOnce.{first_here}
use Rattle.world_mutex.proofs.step.Here.{same_roles}
use Rattle.world_mutex.proofs.step.Stepping.{known_calls, carried}
use Rattle.world_mutex.proofs.whole.Whole.{from_turn, by_step}

ends_not : (trying : Bool) (v : ℕ) (e : End) → answer_by trying v (Next.End e) ≡ Answer.Stepped → ⊥
ends_not true v End.Got h = cc h
ends_not false v End.Got h = cc h
ends_not trying v End.Pending h = cc h
ends_not trying v End.NotFree h = cc h
ends_not trying v End.Granted h = cc h
ends_not trying v End.Waiting h = cc h
ends_not trying v End.GivenBack h = cc h
ends_not trying v (End.Refused r) h = cc h

not_free : (b : Bool) (n : ℕ) → 0 < n → b && (n == 0) ≡ false
not_free false n some = refl
not_free true n some = other_test n 0 (λ e. omega (arith, e, some))

unchosen : {A : Type 0} (b : Bool) (x y : A) → b ≡ false → (if b then x else y) ≡ y
unchosen false x y e = refl
unchosen true x y e = absurd (true≢false e)

module _ (p : ℕ) (i : Inputs) where
  pub record New (t : Table Guarded) : Type 0 where
    pub call : Within
    pub inside : stage_at t.stages p ≡ Inside call
    pub some : 0 < starved t.machine.lock
    pub new : NewAt true (place_of t.machine p) p t.machine.lock.entries

  abbrev pub Ended : Answer → Table Guarded → Type 0
  Ended b t = ((b ≡ Answer.Pending) × (counted (place_of t.machine p) ≡ 1)) ⊎ (is_refusal b ≡ true)

  abbrev OnTo : Answer → Table Guarded → Type 0
  OnTo = Onward New Ended

  answered : (trying : Bool) (v : ℕ) (from : Place) (n : Next) (a : Answer) (u : Table Guarded) (w : Within) → a ≡ answer_by trying v n → place_of u.machine p ≡ place_after from n → stage_at u.stages p ≡ stage_after Rest.Holding w a → NewThen true from n p u.machine.lock → OnTo a u
  answered trying v from (Next.Do b x) a u w is to stage h = (
      let F : Place → Type 0 = λ y. NewAt true y p u.machine.lock.entries in
      record { going = λ e. record { call = w; inside = stage ∙ ap (stage_after Rest.Holding w) is; some = h.0; new = subst F (sym to) h.1 }; ended = λ e. absurd (e is) }
      )
  answered trying v from (Next.End e) a u w is to stage h = record {
    going = λ s. absurd (ends_not trying v e (sym is ∙ s));
    ended = λ s. elim h as (λ _. Ended a u) [
      | inl q ↦ inl (is ∙ ap (λ z. answer_by trying v (Next.End z)) q.0, ap counted to ∙ ap counted q.1)
      | inr r ↦ inr (ap is_refusal is ∙ (ap (λ z. is_refusal (answer_by trying v (Next.End z))) r.1 ∙ r.2))
    ];
  }

  acts_so : (t u : Table Guarded) (what : What) (a : Answer) (w : Within) (k : Acting t u (record { party = p; what = what }) a w) → 0 < starved t.machine.lock → NewAt true k.carries.from p t.machine.lock.entries → OnTo a u
  acts_so t u what a w k some new =
      let m : Move = record { party = p; what = what } in
      let from = k.carries.from in
      let did = k.carries.carried.acts in
      let there = acting.there t u m a w k in
      let to : Place = place_after from (next_of from did.found) in
      let same = same_roles (stage_at t.stages p) w (place_of t.machine p) from k.here.begins in
      let own : entries_of p t.machine.lock.entries ≡ listed from = k.old_laws.owners p ∙ sym same.standing in
      let places : u.machine.lock.places ≡ set t.machine.lock.places p to = did.places ∙ ap (λ n. set t.machine.lock.places p (place_after from n)) did.next_is in
      let sum : sum_by counted (set t.machine.lock.places p to) + counted (place_of t.machine p) ≡ sum_by counted t.machine.lock.places + counted to = sum_by-set counted t.machine.lock.places p to Place.Out there in
      let sums : starved u.machine.lock + counted from ≡ starved t.machine.lock + counted to = omega (arith, sum, ap (sum_by counted) places, same.starving) in
      let on : NewThen true from (next_of from did.found) p u.machine.lock = goes true (inputs_of what).memory p t.machine.lock u.machine.lock from did.found did.finds did.list sums some own new in
      let N : Next → Type 0 = λ n. NewThen true from n p u.machine.lock in
      let stage : stage_at u.stages p ≡ stage_after Rest.Holding w a = ap (λ ss. stage_at ss p) k.stages ∙ get_or-set_same t.stages p (stage_after Rest.Holding w a) Forgotten k.inside in
      answered (is_try_kind w.kind) t.machine.value from k.carries.next a u w k.carries.answer (acting.lands_at t u m a w k) stage (subst N (sym did.next_is) on)

  pub onward : (x : World) (a : Answer) (v : World) → New x.behind → Steps x (going_on p i) a v → Onward (λ y. New y.behind) (λ b y. Ended b y.behind) a v
  onward x a v g s =
      let t = x.behind in
      let u = v.behind in
      let m : Move = going_on p i in
      let e : call_at knows (stage_at t.stages p) (Go i) ≡ Some g.call = ap (λ z. call_at knows z (Go i)) g.inside in
      let f : polls_again (stage_at t.stages p) (Go i) ≡ false = ap (λ z. polls_again z (Go i)) g.inside in
      let d : Acted known_calls Rest.Holding Moves g.call t m a u = acted known_calls Rest.Holding Moves t u m a g.call e f s.did.step in
      let k : Acting t u m a g.call = carried t u m a s.did.stood.laws s.did.stood.fits s.did.stands.laws s.did.stands.fits g.call e f d refl in
      let F : Place → Type 0 = λ y. NewAt true y p t.machine.lock.entries in
      let o = acts_so t u (Go i) a g.call k g.some (subst F (from_turn t u m a g.call k) g.new) in
      record { going = o.going; ended = o.ended }

  -- the first step goes on
  pub first : (c : Call) (x : World) → 0 < starved x.behind.machine.lock → is_first_poll (standing_of (view_of x.behind) p) (Begin c i) (entries_of p (view_of x.behind).entries) ≡ true → (a : Answer) (v : World) → a ≡ Answer.Stepped → Steps x (beginning p c i) a v → Onward (λ y. New y.behind) (λ b y. Ended b y.behind) a v
  first c x some is a v stepped s =
      let t = x.behind in
      let m : Move = beginning p c i in
      let F : Place → Type 0 = λ y. NewAt true y p t.machine.lock.entries in
      let on : a ≡ Answer.Stepped → New v.behind = by_step t v.behind m a s.did.stood.laws s.did.stood.fits s.did.stands.laws s.did.stands.fits (λ b y. b ≡ Answer.Stepped → New y)
      (λ e. absurd (cc e)) (λ e. absurd (cc e)) (λ n e y. absurd (cc y))
      (λ w k e. (acts_so t v.behind (Begin c i) a w k some (subst F (sym (first_here t v.behind m a w k is).0) tt)).going e) s.did.step in
      record { going = on; ended = λ e. absurd (e stepped) }

-- ---- as callers see it

module _ (known : ℕ → Account) (w : World) (p : ℕ) (c : Call) (i : Inputs) (n : ℕ) (a : Answer) (v : World) (stood : Stands w) (stands : Stands v) (runs : Runs known w (moves_of p c i n) (answers_of n a) v) (ended : a ≢ Answer.Stepped) where
  pub newcomer : is_first_poll (standing_of w p) (Begin c i) (entries_of p w.entries) ≡ true → 0 < how_many w.state.starved → ((a ≡ Answer.Pending) × (is_starved v.state p ≡ true)) ⊎ (is_refusal a ≡ true)
  newcomer is some =
      let many : how_many w.state.starved ≡ starved w.behind.machine.lock = ap (λ x. how_many x.state.starved) stood.seen ∙ sees.how_many_counted w.behind.machine.lock.places in
      let there : 0 < starved w.behind.machine.lock = omega (arith, some, many) in
      let F : World → Type 0 = λ x. is_first_poll (standing_of x p) (Begin c i) (entries_of p x.entries) ≡ true in
      let held : is_free w.state ≡ false = not_free (is_none w.state.holder) (how_many w.state.starved) some in
      let out = along Steps accounts_after HoldsWell p i (λ y. New p i y.behind) (λ b y. Ended p i b y.behind) (onward p i) known n w (beginning p c i) a v
      (λ b x s. first p i c w there (subst F stood.seen is) b x (s.at_once.ready is ∙ unchosen (is_free w.state) (Answer.Ready (Value w.state.value)) Answer.Stepped held) s) ended runs in
      elim out as (λ _. ((a ≡ Answer.Pending) × (is_starved v.state p ≡ true)) ⊎ (is_refusal a ≡ true)) [
        | inl q ↦ inl (q.0, ap (λ x. is_starved x.state p) stands.seen ∙ (sees.starved_at v.behind.machine.lock.places p ∙ ap (λ (k : ℕ). k == 1) q.1))
        | inr r ↦ inr r
      ]
