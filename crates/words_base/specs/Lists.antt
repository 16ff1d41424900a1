-- What the rule of a table sees of a waiting list, and what becomes of a list while it is out.
use Rattle.std.specs.Prelude.{◌≡◌, ℕ, ◌<◌, ◌≤◌, ◌⊎◌, List, [], ◌∷◌, ◌++◌, refl}
use Rattle.std.specs.Coded.{Coded, code_by, coded×, coded_list, coded_ℕ}
use Rattle.words_base.specs.Waiting.{IsNew, NoneWaits, Fewer, JoinedBy, LeftBy, StaysTold, all_but, last_of}

-- The numbers of its entries; of those that are not notified; and how many are.
pub record Listed : Type 0 where
  pub entries : List ℕ
  pub waiting : List ℕ
  pub notified : ℕ

abbrev pub listed_coded : Coded Listed
listed_coded = code_by (List ℕ × (List ℕ × ℕ)) (coded× (coded_list coded_ℕ) (coded× (coded_list coded_ℕ) coded_ℕ)) (λ l. (l.entries, (l.waiting, l.notified))) (λ p. record { entries = p.0; waiting = p.1.0; notified = p.1.1 }) (λ _. refl)

abbrev pub nobody : Listed
nobody = record { entries = []; waiting = []; notified = 0 }

-- One is notified, or nobody waits.
abbrev pub IsSettled : Listed → Type 0
IsSettled l = (0 < l.notified) ⊎ NoneWaits l.waiting

-- The same entries stand in it, and nobody waits that didn't before; and if one was notified, one is, or nobody waits.
pub record Stays (old new : Listed) : Type 0 where
  pub entries : new.entries ≡ old.entries
  pub fewer : Fewer old.waiting new.waiting
  pub told : StaysTold old.notified new.waiting new.notified

-- The same entries stand in it, nobody waits that didn't before, and it is settled; no more are notified than before, or than one.
pub record Pays (old new : Listed) : Type 0 where
  pub entries : new.entries ≡ old.entries
  pub fewer : Fewer old.waiting new.waiting
  pub settled : IsSettled new
  pub few : (new.notified ≤ old.notified) ⊎ (new.notified ≤ 1)

-- The same entries stand in it, and all are notified.
pub record PaysAll (old new : Listed) : Type 0 where
  pub entries : new.entries ≡ old.entries
  pub none_waits : NoneWaits new.waiting

-- The entry of this number, which no other had, has joined at the back, and waits; and no fewer are notified.
pub record Joins (k : ℕ) (old new : Listed) : Type 0 where
  pub entries : new.entries ≡ old.entries ++ k ∷ []
  pub fresh : IsNew k old.entries
  pub joined : JoinedBy k old.waiting new.waiting
  pub last : last_of new.waiting ≡ k
  pub notified : old.notified ≤ new.notified

-- The entry of this number has left, and each other stands where it did.
pub record Leaves (k : ℕ) (old new : Listed) : Type 0 where
  pub entries : new.entries ≡ all_but k old.entries
  pub left : LeftBy k old.waiting new.waiting

-- The same, and what it was notified of has gone on: if one was notified, one is, or nobody waits.
pub record HandsOn (k : ℕ) (old new : Listed) : Type 0 where
  pub leaves : Leaves k old new
  pub told : StaysTold old.notified new.waiting new.notified
