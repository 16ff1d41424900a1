-- What the answer to a party's own move tells of its right is how it stands then.
use Rattle.world_rwlock.proofs.Prelude.{◌≡◌, ◌&&◌, ◌⊎◌, if◌then◌else◌, inl, inr, Bool, true, false, Option, Some, None, is_some, refl, ap, sym, ◌∙◌, subst, Refusal, Answer, Call, Inputs, What, Begin, Go, Kind, Rest, Within, within, Account, sought_after, takes_away, has_after, is_poll_after_ready, put_in, Right, Standing, outside, kind_of, may_begin, call_in, may_end, refused, leaves_as_it_was, StandsAfter, knows, is_long_call}
use Rattle.world_base.specs.declared.moves.Got.{Got}

-- a party that stands so has a right by its answers, unless it is forgotten
abbrev pub has_standing : Standing → Bool
has_standing (outside Rest.Holding) = true
has_standing s = false

abbrev pub account : Option Right → Bool → Account
account s h = record { seeks = s; has = h }

if_same : (b : Bool) → (if b then false else false) ≡ false
if_same true = refl
if_same false = refl

not_held : (b : Bool) (r : Rest) → has_standing (outside r) ≡ false → has_standing (outside (if b then r else Rest.Pending)) ≡ false
not_held true r none = none
not_held false r none = refl

ends_so : (k : Kind) (a : Answer) → (k ≡ Kind.FirstPoll) ⊎ (k ≡ Kind.LaterPoll) → may_end k a ≡ true → may_end Kind.FirstPoll a ≡ true
ends_so k a (inl e) h = let P : Kind → Type 0 = λ k. may_end k a ≡ true in subst P e h
ends_so k a (inr e) h = let P : Kind → Type 0 = λ k. may_end k a ≡ true in same_ends a (subst P e h) where
  same_ends : (a : Answer) → may_end Kind.LaterPoll a ≡ true → may_end Kind.FirstPoll a ≡ true
  same_ends Answer.Pending h = refl
  same_ends (Answer.Ready got) h = refl
  same_ends (Answer.Refused n) h = refl
  same_ends _ h = absurd (cc)

-- in a poll a party has no right by the answers until it is ready
from_poll : (o : Option Right) (k : Kind) (was : Rest) (what : What) (a : Answer) (t : Standing) → (k ≡ Kind.FirstPoll) ⊎ (k ≡ Kind.LaterPoll) → has_standing (outside was) ≡ false → (t ≡ outside Rest.Holding → is_some (sought_after o what a) ≡ true) → StandsAfter Rest.Holding (within k was) a t → has_standing t ≡ has_after (account o false) what a
from_poll o k was what Answer.Stepped t poll none some s = ap has_standing s.1 ∙ sym (if_same (takes_away what))
from_poll o k was what (Answer.Ready got) t poll none some s = ap has_standing s.1 ∙ sym (some s.1)
from_poll o k was what Answer.Pending t poll none some s = ap has_standing s.1 ∙ sym (if_same (takes_away what))
from_poll o k was what (Answer.Refused n) t poll none some s = ap has_standing s.1 ∙ (not_held (leaves_as_it_was n) was none ∙ sym (if_same (takes_away what)))
from_poll o k was what (Answer.Granted got) t poll none some s = absurd (cc (ends_so k (Answer.Granted got) poll s.0))
from_poll o k was what Answer.None t poll none some s = absurd (cc (ends_so k Answer.None poll s.0))
from_poll o k was what Answer.GivenBack t poll none some s = absurd (cc (ends_so k Answer.GivenBack poll s.0))
from_poll o k was what Answer.Waiting t poll none some s = absurd (cc (ends_so k Answer.Waiting poll s.0))
from_poll o k was what Answer.NotPossible t poll none some s = absurd (cc (ends_so k Answer.NotPossible poll s.0))

-- in a try it has none until it is granted
from_try : (o : Option Right) (was : Rest) (what : What) (a : Answer) (t : Standing) → has_after (account o false) what Answer.None ≡ false → has_standing (outside was) ≡ false → (t ≡ outside Rest.Holding → is_some (sought_after o what a) ≡ true) → StandsAfter Rest.Holding (within Kind.Try was) a t → has_standing t ≡ has_after (account o false) what a
from_try o was what Answer.Stepped t vain none some s = ap has_standing s.1 ∙ sym (if_same (takes_away what))
from_try o was what (Answer.Granted got) t vain none some s = ap has_standing s.1 ∙ sym (some s.1)
from_try o was what Answer.None t vain none some s = ap has_standing s.1 ∙ (none ∙ sym vain)
from_try o was what _ t vain none some s = absurd (cc (s.0))

-- a drop takes it away from its first event on
from_drop : (o : Option Right) (was : Rest) (what : What) (had : Bool) (a : Answer) (t : Standing) → (if takes_away what then false else had) ≡ false → sought_after o what Answer.GivenBack ≡ None → StandsAfter Rest.Holding (within Kind.Drop was) a t → has_standing t ≡ has_after (account o had) what a
from_drop o was what had Answer.Stepped t off none s = ap has_standing s.1 ∙ sym off
from_drop o was what had Answer.GivenBack t off none s = ap has_standing s.1 ∙ sym (ap is_some none)
from_drop o was what had _ t off none s = absurd (cc (s.0))

-- a downgrade takes it away too, and gives the lesser one in the end
from_downgrade : (o : Option Right) (was : Rest) (what : What) (had : Bool) (a : Answer) (t : Standing) → (if takes_away what then false else had) ≡ false → (t ≡ outside Rest.Holding → is_some (sought_after o what a) ≡ true) → StandsAfter Rest.Holding (within Kind.Downgrade was) a t → has_standing t ≡ has_after (account o had) what a
from_downgrade o was what had Answer.Stepped t off some s = ap has_standing s.1 ∙ sym off
from_downgrade o was what had Answer.GivenBack t off some s = ap has_standing s.1 ∙ sym (some s.1)
from_downgrade o was what had _ t off some s = absurd (cc (s.0))

-- an upgrade takes it away, and its future waits
from_upgrade : (o : Option Right) (was : Rest) (i : Inputs) (had : Bool) (a : Answer) (t : Standing) → StandsAfter Rest.Holding (within Kind.Upgrade was) a t → has_standing t ≡ has_after (account o had) (Begin Call.Upgrade i) a
from_upgrade o was i had Answer.Stepped t s = ap has_standing s.1
from_upgrade o was i had Answer.Waiting t s = ap has_standing s.1
from_upgrade o was i had _ t s = absurd (cc (s.0))

-- after a try to upgrade the party has a right as before, or the greater one
from_try_upgrade : (o : Option Right) (i : Inputs) (a : Answer) (t : Standing) → (t ≡ outside Rest.Holding → is_some (sought_after o (Begin Call.TryUpgrade i) a) ≡ true) → StandsAfter Rest.Holding (within Kind.TryUpgrade Rest.Holding) a t → has_standing t ≡ has_after (account o true) (Begin Call.TryUpgrade i) a
from_try_upgrade o i Answer.Stepped t some s = ap has_standing s.1
from_try_upgrade o i (Answer.Granted got) t some s = ap has_standing s.1 ∙ sym (some s.1)
from_try_upgrade o i Answer.None t some s = ap has_standing s.1
from_try_upgrade o i _ t some s = absurd (cc (s.0))

-- a party that polls again when it has its right keeps it
polled_again : (o : Option Right) (was : Rest) (i : Inputs) (a : Answer) (t : Standing) → a ≡ refused Refusal.Finished → StandsAfter Rest.Holding (within Kind.LaterPoll was) a t → has_standing t ≡ has_after (account o (has_standing (outside was))) (Begin Call.Poll i) a
polled_again o was i a t e s =
    let P : Answer → Type 0 = λ a. StandsAfter Rest.Holding (within Kind.LaterPoll was) a t → has_standing t ≡ has_after (account o (has_standing (outside was))) (Begin Call.Poll i) a in
    subst P (sym e) (λ s. ap has_standing s.1) s

putting : (o : Option Right) (v : _) (i : Inputs) (a : Answer) (t : Standing) (got : Got) → a ≡ Answer.Granted got → (t ≡ outside Rest.Holding → is_some (sought_after o (Begin (Call.Put v) i) a) ≡ true) → StandsAfter Rest.Holding (within Kind.Put Rest.Holding) a t → has_standing t ≡ has_after (account o true) (Begin (Call.Put v) i) a
putting o v i a t got e some s =
    let P : Answer → Type 0 = λ a. (t ≡ outside Rest.Holding → is_some (sought_after o (Begin (Call.Put v) i) a) ≡ true) → StandsAfter Rest.Holding (within Kind.Put Rest.Holding) a t → has_standing t ≡ has_after (account o true) (Begin (Call.Put v) i) a in
    subst P (sym e) (λ some s. ap has_standing s.1 ∙ sym (some s.1)) some s

-- what a legal step says of a call that begins
pub record Beginning (o : Option Right) (r : Rest) (c : Call) (i : Inputs) (a : Answer) (t : Standing) : Type 0 where
  pub stands : StandsAfter Rest.Holding (within (kind_of c) r) a t
  pub after_ready : is_poll_after_ready (outside r) (Begin c i) ≡ true → a ≡ refused Refusal.Finished
  pub put : (v : _) → put_in (Begin c i) ≡ Some v → (got : Got) × (a ≡ Answer.Granted got)
  pub seeks : t ≡ outside Rest.Holding → is_some (sought_after o (Begin c i) a) ≡ true

-- the call that a party begins, where it may
pub begun : (o : Option Right) (r : Rest) (c : Call) (i : Inputs) (u : Within) → call_in (knows o) (outside r) (Begin c i) ≡ Some u → (knows o c ≡ true) × (may_begin r (kind_of c) ≡ true) × (u ≡ within (kind_of c) r)
begun o r c i u e = by_tests (knows o c) (may_begin r (kind_of c)) e where
  by_tests : (x y : Bool) → (if x && y then Some (within (kind_of c) r) else None) ≡ Some u → (x ≡ true) × (y ≡ true) × (u ≡ within (kind_of c) r)
  by_tests true true e = (refl, refl, cc)
  by_tests true false e = absurd (cc)
  by_tests false y e = absurd (cc)

pub from_outside : (o : Option Right) (r : Rest) (c : Call) (i : Inputs) (a : Answer) (t : Standing) → knows o c ≡ true → may_begin r (kind_of c) ≡ true → Beginning o r c i a t → has_standing t ≡ has_after (account o (has_standing (outside r))) (Begin c i) a
from_outside o Rest.Idle Call.Read i a t k m b = from_poll o Kind.FirstPoll Rest.Idle (Begin Call.Read i) a t (inl refl) refl b.seeks b.stands
from_outside o Rest.Idle Call.UpgradableRead i a t k m b = from_poll o Kind.FirstPoll Rest.Idle (Begin Call.UpgradableRead i) a t (inl refl) refl b.seeks b.stands
from_outside o Rest.Idle Call.Write i a t k m b = from_poll o Kind.FirstPoll Rest.Idle (Begin Call.Write i) a t (inl refl) refl b.seeks b.stands
from_outside o Rest.Idle Call.TryRead i a t k m b = from_try o Rest.Idle (Begin Call.TryRead i) a t refl refl b.seeks b.stands
from_outside o Rest.Idle Call.TryUpgradableRead i a t k m b = from_try o Rest.Idle (Begin Call.TryUpgradableRead i) a t refl refl b.seeks b.stands
from_outside o Rest.Idle Call.TryWrite i a t k m b = from_try o Rest.Idle (Begin Call.TryWrite i) a t refl refl b.seeks b.stands
from_outside o Rest.Idle _ i a t k m b = absurd (cc)
from_outside o Rest.Finished Call.Read i a t k m b = from_poll o Kind.FirstPoll Rest.Finished (Begin Call.Read i) a t (inl refl) refl b.seeks b.stands
from_outside o Rest.Finished Call.UpgradableRead i a t k m b = from_poll o Kind.FirstPoll Rest.Finished (Begin Call.UpgradableRead i) a t (inl refl) refl b.seeks b.stands
from_outside o Rest.Finished Call.Write i a t k m b = from_poll o Kind.FirstPoll Rest.Finished (Begin Call.Write i) a t (inl refl) refl b.seeks b.stands
from_outside o Rest.Finished Call.TryRead i a t k m b = from_try o Rest.Finished (Begin Call.TryRead i) a t refl refl b.seeks b.stands
from_outside o Rest.Finished Call.TryUpgradableRead i a t k m b = from_try o Rest.Finished (Begin Call.TryUpgradableRead i) a t refl refl b.seeks b.stands
from_outside o Rest.Finished Call.TryWrite i a t k m b = from_try o Rest.Finished (Begin Call.TryWrite i) a t refl refl b.seeks b.stands
from_outside o Rest.Finished Call.Poll i a t k m b = polled_again o Rest.Finished i a t (b.after_ready refl) b.stands
from_outside o Rest.Finished Call.Drop i a t k m b = from_drop o Rest.Finished (Begin Call.Drop i) false a t refl refl b.stands
from_outside o Rest.Finished _ i a t k m b = absurd (cc)
from_outside o Rest.Pending Call.Poll i a t k m b = from_poll o Kind.LaterPoll Rest.Pending (Begin Call.Poll i) a t (inr refl) refl b.seeks b.stands
from_outside o Rest.Pending Call.Drop i a t k m b = from_drop o Rest.Pending (Begin Call.Drop i) false a t refl refl b.stands
from_outside o Rest.Pending _ i a t k m b = absurd (cc)
from_outside o Rest.Holding Call.Poll i a t k m b = polled_again o Rest.Holding i a t (b.after_ready refl) b.stands
from_outside o Rest.Holding Call.Drop i a t k m b = from_drop o Rest.Holding (Begin Call.Drop i) true a t refl refl b.stands
from_outside o Rest.Holding Call.Upgrade i a t k m b = from_upgrade o Rest.Holding i true a t b.stands
from_outside o Rest.Holding Call.TryUpgrade i a t k m b = from_try_upgrade o i a t b.seeks b.stands
from_outside o Rest.Holding Call.Downgrade i a t k m b = from_downgrade o Rest.Holding (Begin Call.Downgrade i) true a t refl b.seeks b.stands
from_outside o Rest.Holding Call.DowngradeToUpgradable i a t k m b = from_downgrade o Rest.Holding (Begin Call.DowngradeToUpgradable i) true a t refl b.seeks b.stands
from_outside o Rest.Holding (Call.Put v) i a t k m b = let g = b.put v refl in putting o v i a t g.0 g.1 b.seeks b.stands
from_outside o Rest.Holding _ i a t k m b = absurd (cc)

-- a party that goes on with its call; in a drop it seeks nothing
pub from_inside : (o : Option Right) (k : Kind) (was : Rest) (i : Inputs) (a : Answer) (t : Standing) → is_long_call k was ≡ true → (k ≡ Kind.Drop → o ≡ None) → (t ≡ outside Rest.Holding → is_some (sought_after o (Go i) a) ≡ true) → StandsAfter Rest.Holding (within k was) a t → has_standing t ≡ has_after (account o false) (Go i) a
from_inside o Kind.FirstPoll Rest.Idle i a t l none some s = from_poll o Kind.FirstPoll Rest.Idle (Go i) a t (inl refl) refl some s
from_inside o Kind.LaterPoll Rest.Pending i a t l none some s = from_poll o Kind.LaterPoll Rest.Pending (Go i) a t (inr refl) refl some s
from_inside o Kind.Try Rest.Idle i a t l none some s = from_try o Rest.Idle (Go i) a t refl refl some s
from_inside o Kind.Drop Rest.Pending i a t l none some s = from_drop o Rest.Pending (Go i) false a t refl (none refl) s
from_inside o Kind.Drop Rest.Holding i a t l none some s = from_drop o Rest.Holding (Go i) false a t refl (none refl) s
from_inside o Kind.Downgrade Rest.Holding i a t l none some s = from_downgrade o Rest.Holding (Go i) false a t refl some s
from_inside o _ _ i a t l none some s = absurd (cc)
