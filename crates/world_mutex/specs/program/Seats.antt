-- What an action does to a mutex's list, and what it needs.
use Rattle.std.specs.Prelude.{◌≡◌, ℕ, ◌<◌, ◌≤◌, Bool, true, false}
use Rattle.lock_event.specs.Lists.{joined, notified, left, without, is_marked_at}
use Rattle.world_base.specs.queue.Parties.{is_party, entries_of}
use Rattle.world_base.specs.queue.Queues.{Queue, queue}
use Rattle.world_mutex.specs.declared.program.word.Word.{Word}
use Rattle.lock_program.specs.declared.mutex.Action.{Action}
use Rattle.lock_program.specs.declared.mutex.Action.TheVariants as act
use Rattle.lock_program.specs.declared.mutex.Found.{Found}
use Rattle.lock_program.specs.declared.mutex.Found.TheVariants.{Done, NoMemory, Yes, No}

-- actions on the list; one on the word leaves the list alone
abbrev pub OnList : ℕ → Bool → Action → Found → Queue → Queue → Type 0
OnList p memory act.Join Done l m = (memory ≡ true) × (m ≡ queue l.parties (joined l.entries p))
OnList p memory act.Join NoMemory l m = (memory ≡ false) × (m ≡ l)
OnList p memory act.Join _ l m = ⊥
OnList p memory act.Ask Yes l m = (is_marked_at (is_party p) l.entries ≡ true) × (m ≡ queue l.parties (without (is_party p) l.entries))
OnList p memory act.Ask No l m = (is_marked_at (is_party p) l.entries ≡ false) × (m ≡ l)
OnList p memory act.Ask _ l m = ⊥
OnList p memory act.Leave Done l m = m ≡ queue l.parties (left (is_party p) l.entries)
OnList p memory act.Leave _ l m = ⊥
OnList p memory act.Notify Done l m = m ≡ queue l.parties (notified l.entries 1)
OnList p memory act.Notify _ l m = ⊥
OnList p memory _ _ l m = m ≡ l

-- what an action needs of the word and the list
abbrev pub CanDo : ℕ → Action → Word → Queue → Type 0
CanDo p act.Count w l = w.starved ≤ w.limit
CanDo p act.Uncount w l = 0 < w.starved
CanDo p act.Clear w l = w.held ≡ true
CanDo p act.Join w l = (p < l.parties) × (entries_of p l.entries ≡ 0)
CanDo p act.Ask w l = (p < l.parties) × (0 < entries_of p l.entries)
CanDo p act.Leave w l = (p < l.parties) × (0 < entries_of p l.entries)
CanDo p _ w l = Unit {0}
