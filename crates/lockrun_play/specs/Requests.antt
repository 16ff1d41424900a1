-- What a World of any lock does that is asked for something.
use Rattle.std.specs.Prelude.{◌≡◌, ℕ, ◌<◌, ◌≤◌, ◌^◌, List}
use Rattle.world_base.specs.declared.moves.Answer.{Answer}
use Rattle.world_base.specs.declared.moves.Answer.TheVariants.{NotPossible}
use Rattle.world_base.specs.declared.moves.Call.{Call}
use Rattle.world_base.specs.declared.moves.Inputs.{Inputs}
use Rattle.world_base.specs.declared.moves.Move.{Move}
use Rattle.lockrun_script.specs.declared.command.Request.{Request}
use Rattle.lockrun_script.specs.declared.command.Request.TheVariants.{Step, Whole, Put, Take, Show}
use Rattle.lockrun_play.specs.declared.played.Reply.{Reply}
use Rattle.lockrun_play.specs.Answers.{answer_text, reply_text}

-- this is so of a party whose number has 32 bits at most; a greater one is past the table: nothing is possible for it, and nothing changes
pub record KeepsToTable {W : Type 0} (party : ℕ) (Within : Type 0) (old : W) (a : Answer) (new : W) : Type 0 where
  pub within : party < 2 ^ 32 → Within
  pub past : 2 ^ 32 ≤ party → (a ≡ NotPossible) × (new ≡ old)

-- a World's steps, its whole calls and what they promise, how a put and a take are replied and what they lead to, and the text of its state
module _ {W : Type 0} (Steps : W → Move → Answer → W → Type 0) (IsWhole Promises : W → ℕ → Call → Inputs → Answer → W → Type 0) (put_gives : W → ℕ → Reply × W) (take_gives : W → Reply × W) (text_of : W → List ℕ) where
  -- what is asked for leads from the old World to the new one, and is answered by this text
  abbrev pub Does : Request → W → W → List ℕ → Type 0
  Does (Step party what) old new text = (a : Answer) × KeepsToTable party (Steps old (record { party = party; what = what }) a new) old a new × (text ≡ answer_text a)
  Does (Whole party call inputs) old new text = (a : Answer) × KeepsToTable party (IsWhole old party call inputs a new × Promises old party call inputs a new) old a new × (text ≡ answer_text a)
  Does (Put v) old new text = (new ≡ (put_gives old v).1) × (text ≡ reply_text (put_gives old v).0)
  Does Take old new text = (new ≡ (take_gives old).1) × (text ≡ reply_text (take_gives old).0)
  Does Show old new text = (new ≡ old) × (text ≡ text_of old)
