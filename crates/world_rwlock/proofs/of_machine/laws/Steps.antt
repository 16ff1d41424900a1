-- What an action adds and takes away, and what it asks of the places before and after it.
use Rattle.world_rwlock.proofs.Prelude.{◌≡◌, ℕ, ◌+◌, ◌-◌, zero, suc, Bool, true, nat_eq, Place, Action, Found, Done, Writer, NoneLeft, Yes, reads, marks, only_turns, writes, in_no_writer, waits_no_writer, owes_no_writer, in_no_readers, waits_no_readers, owes_no_readers}

-- readers that come and go
abbrev pub on : Action → Found → ℕ
on Action.Read Done = 1
on Action.Add Done = 1
on Action.Down f = 1
on _ f = 0

abbrev pub off : Action → Found → ℕ
off Action.Off f = 1
off Action.TryUpgrade Done = 1
off Action.Upgrade f = 1
off _ f = 0

-- the bit that is set and cleared
abbrev pub sets : Action → Found → ℕ
sets Action.Mark f = 1
sets Action.TryWrite Done = 1
sets Action.TryUpgrade Done = 1
sets Action.Upgrade f = 1
sets _ f = 0

abbrev pub clears : Action → Found → ℕ
clears Action.Down f = 1
clears Action.Unmark f = 1
clears _ f = 0

-- entries that come and go in each list
abbrev pub in_w : Action → Found → ℕ
in_w Action.JoinNoWriter Done = 1
in_w _ f = 0

abbrev pub out_w : Action → Found → ℕ
out_w Action.AskNoWriter Yes = 1
out_w Action.LeaveNoWriter f = 1
out_w _ f = 0

abbrev pub in_r : Action → Found → ℕ
in_r Action.JoinNoReaders Done = 1
in_r _ f = 0

abbrev pub out_r : Action → Found → ℕ
out_r Action.AskNoReaders Yes = 1
out_r Action.LeaveNoReaders f = 1
out_r _ f = 0

-- a mark that goes with its entry: the party that asked for it has it
abbrev pub taken_w : Action → Found → ℕ
taken_w Action.AskNoWriter Yes = 1
taken_w _ f = 0

abbrev pub taken_r : Action → Found → ℕ
taken_r Action.AskNoReaders Yes = 1
taken_r _ f = 0

-- a party goes from waiting x, owing u to waiting y, owing v: it owes now, or it begins neither to wait nor stops to owe
abbrev pub keeps : ℕ → ℕ → ℕ → ℕ → Bool
keeps x y u zero = nat_eq ((y - x) + u) 0
keeps x y u (suc v) = true

-- nobody begins to write but where no reader is left
abbrev pub Alone : Action → Found → Place → Place → Type 0
Alone Action.Read Done x y = Unit {0}
Alone Action.Add Done x y = only_turns x ≡ 1
Alone Action.Load NoneLeft x y = Unit {0}
Alone Action.Mark NoneLeft x y = Unit {0}
Alone Action.TryWrite Done x y = Unit {0}
Alone Action.TryUpgrade Done x y = Unit {0}
Alone Action.Down f x y = Unit {0}
Alone _ f x y = writes y - writes x ≡ 0

-- what is owed to the list of those that wait for no writer
abbrev pub Owed_w : Action → Found → Place → Place → Type 0
Owed_w Action.Read Writer x y = Unit {0}
Owed_w Action.Mark f x y = Unit {0}
Owed_w Action.TryWrite Done x y = Unit {0}
Owed_w Action.TryUpgrade Done x y = Unit {0}
Owed_w Action.Upgrade f x y = Unit {0}
Owed_w Action.Down f x y = owes_no_writer y ≡ 1
Owed_w Action.Unmark f x y = owes_no_writer y ≡ 1
Owed_w Action.AskNoWriter Yes x y = owes_no_writer y ≡ 1
Owed_w Action.NotifyNoWriter f x y = Unit {0}
Owed_w _ f x y = keeps (waits_no_writer x) (waits_no_writer y) (owes_no_writer x) (owes_no_writer y) ≡ true

-- and to the list of those that wait for no readers
abbrev pub Owed_r : Action → Found → Place → Place → Type 0
Owed_r Action.Read Done x y = Unit {0}
Owed_r Action.Add Done x y = Unit {0}
Owed_r Action.Down f x y = Unit {0}
Owed_r Action.Off NoneLeft x y = owes_no_readers y ≡ 1
Owed_r Action.Off f x y = Unit {0}
Owed_r Action.Load NoneLeft x y = keeps (waits_no_readers x) (waits_no_readers y) (owes_no_readers x) (owes_no_readers y) ≡ true
Owed_r Action.Load f x y = Unit {0}
Owed_r Action.Mark f x y = waits_no_readers y - waits_no_readers x ≡ 0
Owed_r Action.TryWrite Done x y = waits_no_readers y - waits_no_readers x ≡ 0
Owed_r Action.TryUpgrade Done x y = waits_no_readers y - waits_no_readers x ≡ 0
Owed_r Action.Upgrade f x y = waits_no_readers y - waits_no_readers x ≡ 0
Owed_r Action.AskNoReaders Yes x y = (waits_no_readers x ≡ 1) × (waits_no_readers y ≡ 0)
Owed_r Action.NotifyNoReaders f x y = Unit {0}
Owed_r _ f x y = keeps (waits_no_readers x) (waits_no_readers y) (owes_no_readers x) (owes_no_readers y) ≡ true

-- the roles of the places before and after an action follow what it does
pub record Fits (a : Action) (f : Found) (x y : Place) : Type 0 where
  pub reading : reads y + off a f ≡ reads x + on a f
  pub marking : marks y + clears a f ≡ marks x + sets a f
  pub standing_w : in_no_writer y + out_w a f ≡ in_no_writer x + in_w a f
  pub standing_r : in_no_readers y + out_r a f ≡ in_no_readers x + in_r a f
  pub set_by_turn : sets a f - only_turns x ≡ 0
  pub cleared_by_own : clears a f - marks x ≡ 0
  pub left_by_listed_w : out_w a f - in_no_writer x ≡ 0
  pub left_by_listed_r : out_r a f - in_no_readers x ≡ 0
  pub alone : Alone a f x y
  pub owed_w : Owed_w a f x y
  pub owed_r : Owed_r a f x y
