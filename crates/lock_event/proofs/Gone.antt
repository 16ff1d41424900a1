-- Which slots a list still has once an entry has left it.
use Rattle.std.proofs.Common.{◌≡◌, ℕ, ◌-◌, false, List, [], ◌∷◌, Option, Some, None, refl, ap, ◌∙◌, subst, inl, inr, arith, eq-eqb, ne_eqb}
use Rattle.std.proofs.lemmas.Bool.{cases_eq}
use Rattle.lock_event.specs.declared.event.Mark.{Mark}
use Rattle.lock_event.specs.declared.event.Mark.TheVariants.{Waiting, Notified, Additional}
use Rattle.lock_event.specs.declared.event.Entry.{Entry}
use Rattle.lock_event.specs.declared.event.EntryId.{EntryId}
use Rattle.lock_event.specs.declared.event.Slot.{Slot}
use Rattle.lock_event.specs.Lists.{mark_waiting, marked_count, passed_on, is_listed}
use Rattle.lock_event.specs.Slots.{has_id}
use Rattle.lock_event.specs.Chains.{number, is_in, AreApart, cut_out}
use Rattle.lock_event.proofs.Ids.{is_listed-in}

module _ {W : Type 0} where
  pub in-cut_out : (key : ℕ) (es : List (Entry (Slot W))) → AreApart es → is_in key (cut_out key es) ≡ false
  in-cut_out key [] apart = refl
  in-cut_out key (e ∷ es) apart = elim (cases_eq (number e) key) [
    | inl same ↦ rw (eq-eqb (number e) key same) (subst (λ k. is_in k es ≡ false) same apart.0)
    | inr other ↦ rw (ne_eqb (number e) key other) (rw (ne_eqb (number e) key other) (in-cut_out key es apart.1))
  ]

  in-mark_waiting : (key : ℕ) (m : Mark) (n : ℕ) (es : List (Entry (Slot W))) → is_in key (mark_waiting m n es) ≡ is_in key es
  in-mark_waiting key m n [] = refl
  in-mark_waiting key m n (e ∷ es) = grind (arith, in-mark_waiting key m n es, in-mark_waiting key m (n - 1) es)

  in-passed_on : (key : ℕ) (mark : Option Mark) (es : List (Entry (Slot W))) → is_in key (passed_on mark es) ≡ is_in key es
  in-passed_on key None es = refl
  in-passed_on key (Some Waiting) es = refl
  in-passed_on key (Some Notified) es = in-mark_waiting key Notified (1 - marked_count es) es
  in-passed_on key (Some Additional) es = in-mark_waiting key Additional 1 es

  -- what an entry had heard has gone on, and no entry has its id
  pub unlisted_on : (id : EntryId) (mark : Mark) (es new : List (Entry (Slot W))) → new ≡ passed_on (Some mark) es → is_in id.number es ≡ false → is_listed (has_id id) new ≡ false
  unlisted_on id mark es new is out = is_listed-in id new ∙ (ap (is_in id.number) is ∙ (in-passed_on id.number (Some mark) es ∙ out))
