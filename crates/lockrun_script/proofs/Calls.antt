-- The words of a call.
use Rattle.std.proofs.Common.{◌≡◌, ℕ, ◌⊎◌, inl, inr, List, ◌∷◌, refl, sym, subst, ◌∙◌, ap}
use Rattle.std.specs.Prelude.{if◌then◌else◌, Option, None, Some, bytes_eq, codes}
use Rattle.world_base.specs.declared.moves.Call.{Call}
use Rattle.world_base.specs.declared.moves.Call.TheVariants as call
use Rattle.std.specs.Str.Parse.{digits_value}
use Rattle.lockrun_script.specs.Commands.{AsksPermits, BeginsWithCall, IsWordOf, TakesNumber}
use Rattle.lockrun_script.specs.Lines.{IsNumber, Writes}

-- a call is begun by a word that names it alone, by one that names it with the number after it, or by one that names it with permits
abbrev Alone : List (List ℕ) → List (List ℕ) → Call → Type 0
Alone words others c = (word : List ℕ) × (words ≡ word ∷ others) × IsWordOf word c

abbrev WithNumber : List (List ℕ) → List (List ℕ) → Call → Type 0
WithNumber words others c = (word digits : List ℕ) × (v : ℕ) × (words ≡ word ∷ digits ∷ others) × Writes digits v × TakesNumber word v c

abbrev WithPermits : List (List ℕ) → List (List ℕ) → Call → Type 0
WithPermits words others c = (word : List ℕ) × (after : List (List ℕ)) × (words ≡ word ∷ after) × AsksPermits word after c others

begins : (words others : List (List ℕ)) (c : Call) → BeginsWithCall words c others → Alone words others c ⊎ (WithNumber words others c ⊎ WithPermits words others c)
begins words others (call.Put v) (w, a, h) = inr (inl (_, w, v, a, h, (refl, refl)))
begins words others (call.AddPermits v) (w, a, h) = inr (inl (_, w, v, a, h, (refl, refl)))
begins words others (call.Set v) (w, a, h) = inr (inl (_, w, v, a, h, (refl, refl)))
begins words others (call.TrySet v) (w, a, h) = inr (inl (_, w, v, a, h, (refl, refl)))
begins words others (call.Acquire k) h = inr (inr h)
begins words others (call.TryAcquire k) h = inr (inr h)
begins words others c h = inl h

-- a word that asks for permits begins the call that it asks for
pub permits_begin : (words after others : List (List ℕ)) (word : List ℕ) (c : Call) → words ≡ word ∷ after → AsksPermits word after c others → BeginsWithCall words c others
permits_begin words after others word (call.Acquire k) e h = (word, after, e, h)
permits_begin words after others word (call.TryAcquire k) e h = (word, after, e, h)
permits_begin words after others word _ e h = absurd h

-- a word that names no call alone and asks for no permits, with no number after it, begins none
pub no_call : (words after others : List (List ℕ)) (word : List ℕ) (c : Call) → words ≡ word ∷ after → ¬ IsWordOf word c → ¬ AsksPermits word after c others → ((w : List ℕ) (rest : List (List ℕ)) → after ≡ w ∷ rest → ¬ IsNumber w) → ¬ BeginsWithCall words c others
no_call words after others word c e alone permits none h = elim (begins words others c h) as (λ _. ⊥) [
  | inl (w, a, d) ↦
      let both : word ∷ after ≡ w ∷ others = sym e ∙ a in
      let same : w ≡ word = cc in
      alone (subst (λ x. IsWordOf x c) same d)
  | inr (inl (w, digits, v, a, writes, d)) ↦
      let both : word ∷ after ≡ w ∷ digits ∷ others = sym e ∙ a in
      let next : after ≡ digits ∷ others = cc in
      none digits others next writes.0
  | inr (inr (w, rest, a, d)) ↦
      let both : word ∷ after ≡ w ∷ rest = sym e ∙ a in
      let same : w ≡ word = cc in
      let next : rest ≡ after = cc in
      permits (subst (λ x. AsksPermits word x c others) next (subst (λ x. AsksPermits x rest c others) same d))
]

-- a word that names no call alone and asks for no permits begins the one that it names with the number after it
pub numbered : (words after others left : List (List ℕ)) (word digits : List ℕ) (n : ℕ) (r : Option Call) (c : Call) → words ≡ word ∷ after → ¬ IsWordOf word c → ¬ AsksPermits word after c others → after ≡ digits ∷ left → Writes digits n → (TakesNumber word n c → r ≡ Some c) → BeginsWithCall words c others → (r ≡ Some c) × (left ≡ others)
numbered words after others left word digits n r c e alone permits are writes named h = elim (begins words others c h) as (λ _. (r ≡ Some c) × (left ≡ others)) [
  | inl (w, a, d) ↦
      let both : word ∷ after ≡ w ∷ others = sym e ∙ a in
      let same : w ≡ word = cc in
      absurd (alone (subst (λ x. IsWordOf x c) same d))
  | inr (inl (w, number, v, a, written, d)) ↦
      let both : word ∷ after ≡ w ∷ number ∷ others = sym e ∙ a in
      let same : w ≡ word = cc in
      let read : number ≡ digits = cc in
      let value : v ≡ n = written.1 ∙ ap (digits_value 10) read ∙ sym writes.1 in
      (named (subst (λ x. TakesNumber x n c) same (subst (λ x. TakesNumber w x c) value d)), cc)
  | inr (inr (w, rest, a, d)) ↦
      let both : word ∷ after ≡ w ∷ rest = sym e ∙ a in
      let same : w ≡ word = cc in
      let next : rest ≡ after = cc in
      absurd (permits (subst (λ x. AsksPermits word x c others) next (subst (λ x. AsksPermits x rest c others) same d)))
]

-- the call that a word names, if it takes no number
named_call : List ℕ → Option Call
named_call word =
    if bytes_eq word (codes "lock") then Some call.Lock else
    if bytes_eq word (codes "trylock") then Some call.TryLock else
    if bytes_eq word (codes "read") then Some call.Read else
    if bytes_eq word (codes "upread") then Some call.UpgradableRead else
    if bytes_eq word (codes "write") then Some call.Write else
    if bytes_eq word (codes "tryread") then Some call.TryRead else
    if bytes_eq word (codes "tryupread") then Some call.TryUpgradableRead else
    if bytes_eq word (codes "trywrite") then Some call.TryWrite else
    if bytes_eq word (codes "upgrade") then Some call.Upgrade else
    if bytes_eq word (codes "tryupgrade") then Some call.TryUpgrade else
    if bytes_eq word (codes "downgrade") then Some call.Downgrade else
    if bytes_eq word (codes "toupgradable") then Some call.DowngradeToUpgradable else
    if bytes_eq word (codes "forget") then Some call.Forget else
    if bytes_eq word (codes "init") then Some call.Initialize else
    if bytes_eq word (codes "wait") then Some call.Wait else
    if bytes_eq word (codes "poll") then Some call.Poll else
    if bytes_eq word (codes "drop") then Some call.Drop else
    if bytes_eq word (codes "take") then Some call.Take else
    if bytes_eq word (codes "trytake") then Some call.TryTake else
    if bytes_eq word (codes "give") then Some call.Give else
    None

named : (word : List ℕ) (c : Call) → IsWordOf word c → named_call word ≡ Some c
unfolding named_call
named word call.Lock h = ap named_call h
named word call.TryLock h = ap named_call h
named word call.Read h = ap named_call h
named word call.UpgradableRead h = ap named_call h
named word call.Write h = ap named_call h
named word call.TryRead h = ap named_call h
named word call.TryUpgradableRead h = ap named_call h
named word call.TryWrite h = ap named_call h
named word call.Upgrade h = ap named_call h
named word call.TryUpgrade h = ap named_call h
named word call.Downgrade h = ap named_call h
named word call.DowngradeToUpgradable h = ap named_call h
named word call.Forget h = ap named_call h
named word call.Initialize h = ap named_call h
named word call.Wait h = ap named_call h
named word call.Poll h = ap named_call h
named word call.Drop h = ap named_call h
named word call.Take h = ap named_call h
named word call.TryTake h = ap named_call h
named word call.Give h = ap named_call h
named word (call.Acquire n) h = absurd h
named word (call.TryAcquire n) h = absurd h
named word (call.Put n) h = absurd h
named word (call.AddPermits n) h = absurd h
named word (call.Set n) h = absurd h
named word (call.TrySet n) h = absurd h

-- a word names one call at most
pub same_call : (word : List ℕ) (c : Call) → IsWordOf word c → (d : Call) → IsWordOf word d → Some c ≡ Some d
same_call word c h d k = sym (named word c h) ∙ named word d k
