-- What is known of lists that are about to be given back.
use Rattle.std.proofs.Common.{◌≡◌, ℕ, ◌∷◌, refl, sym, ap, ◌∙◌, subst, Bool, true, false, inl}
use Rattle.atomic_table.specs.Table.{Me, rest}
use Rattle.words_base.specs.Lists.{Listed, Stays, Pays, PaysAll, Joins, Leaves, HandsOn}
use Rattle.words_base.proofs.Holding.{same_out}
use Rattle.words_cell.specs.Steps.{IsHeld, Out, LeftIf, CanLeave, CanStay}
use Rattle.words_cell.specs.declared.view.View.{View}
use Rattle.sync_program.specs.declared.once_cell.ListName.{ListName}
use Rattle.sync_program.specs.declared.once_cell.ListName.TheVariants.{Active, Passive}
use Rattle.cell_core.specs.ByName.{HasEntryIn, CanJoin, CanHear, CanPay, CanPayAll}
use Rattle.cell_core.specs.Contents.{active_of, passive_of, Says, AreKept, Changes}
use Rattle.cell_core.specs.declared.lists.Lists.{Lists}

-- unchanged, they are kept
pub kept : (lists : Lists) → AreKept lists lists
kept lists = record { active = record { entries = refl; fewer = λ n h. h; told = λ some. inl some }; passive = record { entries = refl; fewer = λ n h. h; told = λ some. inl some } }

module _ (m : Me Lists View) (held : IsHeld active_of passive_of m) (now left : Lists) (n : ℕ) (e : m.1 ≡ (0, now) ∷ rest m.1) (says : Says left n) where
  -- the same lists
  same : held.0 ≡ now
  same = same_out held.0 now m.1 (rest m.1) held.4 e

  abbrev After : Me Lists View
  After = (m.0, (0, left) ∷ rest m.1)

  out : Out active_of passive_of After n left
  out = (held.1, refl, says.0, says.1)

  -- what is known of a list since it was lent is known since it was taken out
  active : (Becomes : Listed → Listed → Type 0) → Becomes (active_of now) (active_of left) → Becomes m.0.active (active_of left)
  active Becomes = subst (λ l. Becomes l (active_of left)) (ap active_of (sym same) ∙ sym held.2)

  passive : (Becomes : Listed → Listed → Type 0) → Becomes (passive_of now) (passive_of left) → Becomes m.0.passive (passive_of left)
  passive Becomes = subst (λ l. Becomes l (passive_of left)) (ap passive_of (sym same) ∙ sym held.3)

  -- by whether the seat stands in the list
  gone : (b : Bool) (k : ℕ) (Left : ℕ → Listed → Listed → Type 0) (old new : Listed) → b ≡ true → m.0.entry ≡ k → Left k old new → LeftIf b (Left m.0.entry) old new
  gone b k Left old new is own f = subst (λ c. LeftIf c (Left m.0.entry) old new) (sym is) (subst (λ j. Left j old new) (sym own) f)

  apart : (b : Bool) (Left : Listed → Listed → Type 0) (old new : Listed) → b ≡ false → Stays old new → LeftIf b Left old new
  apart b Left old new is f = subst (λ c. LeftIf c Left old new) (sym is) f

  pub stays : AreKept now left → CanStay active_of passive_of After n
  stays f = (left, out, active Stays f.active, passive Stays f.passive)

  pub joins : (list : ListName) (k : ℕ) → Changes (Joins k) list now left → CanJoin list After n k
  joins Active k f = (left, out, active (Joins k) f.this, passive Stays f.that)
  joins Passive k f = (left, out, active Stays f.that, passive (Joins k) f.this)

  pub leaves : (list : ListName) (k : ℕ) → Changes (HandsOn k) list now left → HasEntryIn list k m.0 → CanLeave active_of passive_of After n
  leaves Active k f is = (left, out, gone m.0.in_active k HandsOn m.0.active (active_of left) is.0 is.2 (active (HandsOn k) f.this), apart m.0.in_passive (Leaves m.0.entry) m.0.passive (passive_of left) is.1 (passive Stays f.that))
  leaves Passive k f is = (left, out, apart m.0.in_active (HandsOn m.0.entry) m.0.active (active_of left) is.0 (active Stays f.that), gone m.0.in_passive k Leaves m.0.passive (passive_of left) is.1 is.2 (passive (Leaves k) f.this.leaves))

  pub hears : (list : ListName) (k : ℕ) → Changes (Leaves k) list now left → HasEntryIn list k m.0 → CanHear list After n
  hears Active k f is = (left, out, subst (λ j. Leaves j m.0.active (active_of left)) (sym is.2) (active (Leaves k) f.this), passive Stays f.that)
  hears Passive k f is = (left, out, apart m.0.in_active (HandsOn m.0.entry) m.0.active (active_of left) is.0 (active Stays f.that), gone m.0.in_passive k Leaves m.0.passive (passive_of left) is.1 is.2 (passive (Leaves k) f.this))

  pub pays : (list : ListName) → Changes Pays list now left → CanPay list After n
  pays Active f = (left, out, active Pays f.this, passive Stays f.that)
  pays Passive f = stays (record { active = f.that; passive = record { entries = f.this.entries; fewer = f.this.fewer; told = λ _. f.this.settled } })

  pub pays_all : (list : ListName) → Changes PaysAll list now left → CanPayAll list After n
  pays_all Active f = (left, out, active PaysAll f.this, passive Stays f.that)
  pays_all Passive f = (left, out, active Stays f.that, passive PaysAll f.this)
