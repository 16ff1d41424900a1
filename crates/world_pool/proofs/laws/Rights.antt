-- After each step of a run what is known by the answers tells which item each party has leased.
use Rattle.world_pool.proofs.Prelude.{◌≡◌, ◌≢◌, ℕ, ◌<◌, ◌≤◌, ◌==◌, if◌then◌else◌, Bool, true, false, Option, Some, None, List, length, refl, arith, ap, sym, ◌∙◌, subst, none_some, false≢true, ℕ_discrete, StepsWell, Answer, Got, Call, Move, What, Begin, Go, Rest, Standing, outside, inside, forgotten, Within, refused, Refusal, call_in, is_poll_after_ready, World, standing_of, lease_of, knows, Legal, call_of, IsSound, IsAwake, is_at_rest, HoldsWell, TellsItems, known_of, items_after, item_after, item_by, item_in, kept_by, set, length-set, get_or-set_other, inl, inr, leased, leases_item, lease_at, is_item}
use Rattle.std.proofs.lemmas.List.Sums.{get_or-le-sum_by, sum_by-set}
use Rattle.world_base.proofs.Equations.{same_test, other_test}
use Rattle.world_base.proofs.of_table.Mapped.{past_last}
use Rattle.std.proofs.lemmas.Bool.{cases_lt}
use Rattle.world_pool.specs.Legal.{Carried, is_carrying}

-- ---- the mover's item

-- whoever begins a call has its item only as a guard, and gives it up then; a party inside a call has none by its answers
not_kept : (s : Standing) (what : What) (w : Within) (l : Option ℕ) → call_in knows s what ≡ Some w → is_poll_after_ready s what ≡ false → kept_by what (item_by s l) ≡ None
not_kept (outside Rest.Idle) (Begin Call.Take i) w l e n = refl
not_kept (outside Rest.Idle) (Begin Call.TryTake i) w l e n = refl
not_kept (outside Rest.Holding) (Begin Call.Give i) w l e n = refl
not_kept (outside Rest.Holding) (Begin Call.Drop i) w l e n = refl
not_kept (outside Rest.Holding) (Begin Call.Poll i) w l e n = absurd (cc n)
not_kept (outside Rest.Pending) (Begin Call.Poll i) w l e n = refl
not_kept (outside Rest.Pending) (Begin Call.Drop i) w l e n = refl
not_kept (outside Rest.Finished) (Begin Call.Take i) w l e n = refl
not_kept (outside Rest.Finished) (Begin Call.TryTake i) w l e n = refl
not_kept (outside Rest.Finished) (Begin Call.Drop i) w l e n = refl
not_kept (outside Rest.Finished) (Begin Call.Poll i) w l e n = absurd (cc n)
not_kept (outside r) (Begin _ i) w l e n = absurd (none_some e)
not_kept (outside r) (Go i) w l e n = absurd (none_some e)
not_kept (inside v d) (Go i) w l e n = refl
not_kept (inside v d) (Begin c i) w l e n = absurd (none_some e)
not_kept forgotten what w l e n = absurd (none_some e)

-- who has no guard has no item by its answers
no_item : (s : Standing) (l : Option ℕ) → (s ≡ outside Rest.Holding → ⊥) → item_by s l ≡ None
no_item (outside Rest.Holding) l h = absurd (h refl)
no_item (outside Rest.Idle) l h = refl
no_item (outside Rest.Pending) l h = refl
no_item (outside Rest.Finished) l h = refl
no_item (inside w d) l h = refl
no_item forgotten l h = refl

item_leased : (s : Standing) (l : Option ℕ) (i : ℕ) → item_by s l ≡ Some i → l ≡ Some i
item_leased (outside Rest.Holding) l i e = e
item_leased (outside Rest.Idle) l i e = absurd (none_some e)
item_leased (outside Rest.Pending) l i e = absurd (none_some e)
item_leased (outside Rest.Finished) l i e = absurd (none_some e)
item_leased (inside w d) l i e = absurd (none_some e)
item_leased forgotten l i e = absurd (none_some e)

after_poll : (s : Standing) (what : What) (item : Option ℕ) → is_poll_after_ready s what ≡ true → item_after item what (refused Refusal.Finished) ≡ item
after_poll (outside Rest.Holding) (Begin Call.Poll i) item h = refl
after_poll (outside Rest.Finished) (Begin Call.Poll i) item h = refl
after_poll _ _ item h = absurd (cc h)

module _ (w : World) (m : Move) (a : Answer) (v : World) (l : Legal w m a v) where
  abbrev p : ℕ
  p = m.party

  carried : (g : Got) → Carried g v p → item_in g ≡ known_of v p
  carried (Got.Value i) h = sym (ap (λ s. item_by s (lease_of v p)) h.0 ∙ h.1)
  carried Got.Plain h = absurd h
  carried (Got.Leader b) h = absurd h
  carried (Got.Taken n) h = absurd h
  carried Got.Failed h = absurd h

  -- a call's step that says of no lease
  module _ (u : Within) (call : call_of w m ≡ Some u) (first : is_poll_after_ready (standing_of w p) m.what ≡ false) where
    none_then : is_carrying a ≡ false → known_of v p ≡ None
    none_then quiet = no_item (standing_of v p) (lease_of v p) (λ e. false≢true (sym quiet ∙ l.carries.only_so (λ none. none_some (sym none ∙ call)) first e))

    none_before : kept_by m.what (known_of w p) ≡ None
    none_before = not_kept (standing_of w p) m.what u (lease_of w p) call first

    by_answer : (b : Answer) → a ≡ b → item_after (known_of w p) m.what b ≡ known_of v p
    by_answer (Answer.Ready g) e = carried g (l.carries.ready g e)
    by_answer (Answer.Granted g) e = carried g (l.carries.granted g e)
    by_answer Answer.NotPossible e = absurd (none_some (sym (l.possible.exactly.0 e) ∙ call))
    by_answer Answer.Stepped e = none_before ∙ sym (none_then (ap is_carrying e))
    by_answer Answer.Pending e = none_before ∙ sym (none_then (ap is_carrying e))
    by_answer Answer.None e = none_before ∙ sym (none_then (ap is_carrying e))
    by_answer Answer.GivenBack e = none_before ∙ sym (none_then (ap is_carrying e))
    by_answer Answer.Waiting e = none_before ∙ sym (none_then (ap is_carrying e))
    by_answer (Answer.Refused n) e = none_before ∙ sym (none_then (ap is_carrying e))

  unchanged : v ≡ w → known_of w p ≡ known_of v p
  unchanged e = sym (ap (λ x. known_of x p) e)

  by_call : (o : Option Within) (b : Bool) → call_of w m ≡ o → is_poll_after_ready (standing_of w p) m.what ≡ b → item_after (known_of w p) m.what a ≡ known_of v p
  by_call None b e f = let none = l.possible.exactly.1 e in rw none (unchanged (l.possible.unchanged none))
  by_call (Some u) true e f = let after = l.ends_properly.after_ready f in rw after.0 (after_poll (standing_of w p) m.what (known_of w p) f ∙ unchanged after.1)
  by_call (Some u) false e f = by_answer u e f a refl

  own : item_after (known_of w p) m.what a ≡ known_of v p
  own = by_call (call_of w m) (is_poll_after_ready (standing_of w p) m.what) refl refl

  others : (q : ℕ) → q ≢ p → known_of v q ≡ known_of w q
  others q apart = let s = l.one_change.others q apart in let k = l.one_change.other_leases q apart in cc

-- ---- after each step

chosen : (b : Bool) (x y : Option ℕ) → b ≡ true → (if b then x else y) ≡ x
chosen b x y e = rw e refl

otherwise : (b : Bool) (x y : Option ℕ) → b ≡ false → (if b then x else y) ≡ y
otherwise b x y e = rw e refl

pub tells_on : (known : ℕ → Option ℕ) (w : World) (m : Move) (a : Answer) (v : World) → TellsItems known w → Legal w m a v → TellsItems (items_after known m a) v
tells_on known w m a v tells l q = elim (ℕ_discrete q m.party) as (λ _. items_after known m a q ≡ known_of v q) [
  | yes e ↦ chosen (m.party == q) (item_after (known q) m.what a) (known q) (same_test m.party q (sym e))
      ∙ (ap (λ k. item_after k m.what a) (tells q) ∙ (let P : ℕ → Type 0 = λ k. item_after (known_of w k) m.what a ≡ known_of v k in subst P (sym e) (own w m a v l)))
  | no apart ↦ otherwise (m.party == q) (item_after (known q) m.what a) (known q) (other_test m.party q (λ e. apart (sym e))) ∙ (tells q ∙ sym (others w m a v l q apart))
]

-- ---- items by leases

module _ (ls : List (Option ℕ)) (i : ℕ) where
  inside_leases : (p : ℕ) → lease_at ls p ≡ Some i → p < length ls
  inside_leases p e = elim (cases_lt p (length ls)) as (λ _. p < length ls) [ inl h ↦ h | inr h ↦ absurd (none_some (sym (past_last ls p None (omega arith)) ∙ e)) ]

  itself : is_item i i ≡ 1
  itself = rw (same_test i i refl) refl

  leases_it : (p : ℕ) → lease_at ls p ≡ Some i → leases_item i (lease_at ls p) ≡ 1
  leases_it p e = ap (leases_item i) e ∙ itself

  pub leased_once : (p : ℕ) → lease_at ls p ≡ Some i → 1 ≤ leased i ls
  leased_once p e = omega (arith, get_or-le-sum_by (leases_item i) ls p None (inside_leases p e), leases_it p e)

  pub one_leases : leased i ls ≤ 1 → (p q : ℕ) → lease_at ls p ≡ Some i → lease_at ls q ≡ Some i → p ≡ q
  one_leases once p q e f = elim (ℕ_discrete p q) as (λ _. p ≡ q) [
    | yes same ↦ same
    | no apart ↦ (
        let less = sum_by-set (leases_item i) ls q None None (inside_leases q f) in
        let there : lease_at (set ls q None) p ≡ Some i = get_or-set_other ls q p None None apart ∙ e in
        let inside : p < length (set ls q None) = rw (length-set ls q None) (inside_leases p e) in
        let some = get_or-le-sum_by (leases_item i) (set ls q None) p None inside in
        absurd (omega (arith, ap (leases_item i) there ∙ itself, leases_it q f, once)))
  ]

pub holds_well : (known : ℕ → Option ℕ) (w : World) (m : Move) (a : Answer) → TellsItems known w → (v : World) → Legal w m a v → IsSound v → (is_at_rest v ≡ true → IsAwake v) → StepsWell TellsItems HoldsWell (items_after known m a) v
holds_well known w m a tells v l sound awake =
    let now = tells_on known w m a v tells l in
    let leases : (q i : ℕ) → items_after known m a q ≡ Some i → lease_of v q ≡ Some i = λ q i e. item_leased (standing_of v q) (lease_of v q) i (sym (now q) ∙ e) in
    record {
      tells = now;
      well = record {
        leased = leases;
        outside_list = λ q i e. omega (arith, sound.different.once i, leased_once v.leases i q (leases q i e));
        exclusion = λ q r i e f. one_leases v.leases i (omega (arith, sound.different.once i)) q r (leases q i e) (leases r i f);
        sound = sound;
        awake = awake;
      };
    }
