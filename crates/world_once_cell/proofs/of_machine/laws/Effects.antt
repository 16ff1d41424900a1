-- What an action does, in numbers.
use Rattle.world_once_cell.proofs.Prelude.{ℕ, ◌<◌, Bool, true, false, List, length, refl, arith, ap, Entry, Additional, is_marked_at, marked_count, mark_waiting, is_party, Queue, Inputs, joins, asks, leaves, notifies, notifies_additionally, counted, mark_some, Action, Found, Active, Passive, Content, CanDo, Finds, effect_of, content_after, active_after, everyone, tally_of, free_of}
use Rattle.sync_program.specs.declared.once_cell.Action.TheVariants as act
use Rattle.sync_program.specs.declared.once_cell.Found.TheVariants as found
use Rattle.world_once_cell.proofs.of_machine.laws.Steps.{OnTally}

-- where a list isn't empty, telling all marks some entry
tell_some : (l : List (Entry ℕ)) → 0 < length l → 0 < marked_count (mark_waiting Additional everyone l)
tell_some l some = mark_some Additional refl everyone (omega arith) l some

module _ (p : ℕ) (c : Content) (q r : Queue) (i : Inputs) where
  abbrev told : Bool
  told = is_marked_at (is_party p) q.entries

  pub numbers : (a : Action) (f : Found) → Finds i p a f c q.entries r.entries → CanDo p a q r → OnTally a f (tally_of c q.entries) (tally_of (content_after p (effect_of a f) c) (active_after p (effect_of a f) q.entries))
  numbers act.Claim found.Empty e k = (ap free_of e, refl, (refl, refl))
  numbers act.Claim found.BeingMade e k = (ap free_of e.1, (refl, (refl, refl)))
  numbers act.Claim (found.Full v) e k = (ap free_of e, (refl, (refl, refl)))
  numbers act.Claim _ e k = absurd e
  numbers act.Look f e k = (refl, (refl, refl))
  numbers (act.Make m) f e k = (refl, (refl, refl))
  numbers (act.Fill v) found.Done e k = (refl, (refl, refl))
  numbers (act.Fill v) _ e k = absurd e
  numbers act.Empty found.Done e k = (refl, (refl, refl))
  numbers act.Empty _ e k = absurd e
  numbers (act.Join Active) found.Done e k = (refl, counted p q.entries joins told refl tt)
  numbers (act.Join Active) found.NoMemory e k = (refl, (refl, refl))
  numbers (act.Join Active) _ e k = absurd e
  numbers (act.Join Passive) found.Done e k = (refl, (refl, refl))
  numbers (act.Join Passive) _ e k = (refl, (refl, refl))
  numbers (act.Ask Active) found.Yes e k = (refl, counted p q.entries asks true e k.1)
  numbers (act.Ask Active) found.No e k = (refl, counted p q.entries asks false e k.1)
  numbers (act.Ask Active) _ e k = absurd e
  numbers (act.Ask Passive) found.Yes e k = (refl, (refl, refl))
  numbers (act.Ask Passive) found.No e k = (refl, (refl, refl))
  numbers (act.Ask Passive) _ e k = (refl, (refl, refl))
  numbers (act.Leave Active) found.Done e k = (refl, counted p q.entries leaves told refl k.1)
  numbers (act.Leave Active) _ e k = absurd e
  numbers (act.Leave Passive) found.Done e k = (refl, (refl, refl))
  numbers (act.Leave Passive) _ e k = (refl, (refl, refl))
  numbers (act.Notify Active) found.Done e k = (refl, counted p q.entries (notifies 1) told refl tt)
  numbers (act.Notify Active) _ e k = absurd e
  numbers (act.Notify Passive) found.Done e k = (refl, (refl, refl))
  numbers (act.Notify Passive) _ e k = (refl, (refl, refl))
  numbers (act.NotifyAll Active) found.Done e k = (tell_some q.entries, (refl, counted p q.entries (notifies_additionally everyone) told refl tt))
  numbers (act.NotifyAll Active) _ e k = absurd e
  numbers (act.NotifyAll Passive) found.Done e k = (refl, (refl, refl))
  numbers (act.NotifyAll Passive) _ e k = (refl, (refl, refl))
  numbers act.Nothing f e k = (refl, (refl, refl))
