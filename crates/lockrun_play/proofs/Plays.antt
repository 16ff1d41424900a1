-- A script that is played, line by line.
use Rattle.std.proofs.Common.{◌≡◌, ℕ, ◌≤◌, Bool, true, false, ltb, List, [], ◌∷◌, ◌++◌, length, refl, sym, subst, ◌∙◌, ap, arith, append_assoc, inl, inr}
use Rattle.std.specs.Prelude.{◌==◌, Option, Some, None, Result, Ok, Err, OnOk, codes, decimal}
use Rattle.std.specs.Io.KnownBytes.{Appends}
use Rattle.std.specs.List.{before_first, after_first, position_or_len}
use Rattle.std.proofs.lemmas.List.{take_all, drop_all, append-nil}
use Rattle.std.proofs.lemmas.List.Sums.{fails_before_first}
use Rattle.std.proofs.lemmas.List.Splits.{slice_split_none, slice_split_first}
use Rattle.std.proofs.lemmas.Bool.{eqb-true, ltb-true, ltb-false}
use Rattle.lockrun_play.specs.declared.world.World.{World}
use Rattle.lockrun_script.specs.declared.command.Command.{Command}
use Rattle.lockrun_script.specs.declared.command.Command.TheVariants.{New}
use Rattle.lockrun_script.specs.declared.command.Model.{Model}
use Rattle.lockrun_script.specs.Verbs.{name_of}
use Rattle.lockrun_script.specs.Commands.{verb_of, Asks}
use Rattle.lockrun_script.specs.Lines.{lines_of, words_of, is_byte, IsPrintable, IsTrimmed}
use Rattle.lock_program.specs.declared.refusal.Refusal.{Refusal}
use Rattle.lock_program.specs.declared.refusal.Refusal.TheVariants.{Permits}
use Rattle.lockrun_play.specs.Openings.{world_of, HasTooManyPermits, IsRefusedFor}
use Rattle.lockrun_play.specs.Plays.{LeadsTo, Makes, Plays, PlaysLine, IsPlayed}
use Rattle.lockrun_play.proofs.Texts.{Appends-more}

-- of nothing
pub Appends-nothing : (a : Option (List ℕ)) → Appends a a []
Appends-nothing None = tt
Appends-nothing (Some xs) = sym (append-nil xs)

-- a new World that is made, or refused by its number, is told of
pub leads_new : {A E : Type 0} (model : Model) (command : Command) (old new : Option World) (before after : Option (List ℕ)) (r : Result A E) → command ≡ New model → OnOk r ((text : List ℕ) × Makes model old new text × Appends before after (text ++ 10 ∷ [])) → OnOk r ((text : List ℕ) × LeadsTo command old new text × Appends before after (text ++ 10 ∷ []))
leads_new model command old new before after (Ok v) c (text, m, p) = (text, subst (λ k. LeadsTo k old new text) (sym c) m, p)
leads_new model command old new before after (Err e) c h = tt

-- one that is made
pub made_new : {A E : Type 0} (model : Model) (old : Option World) (new : World) (before after : Option (List ℕ)) (r : Result A E) → new ≡ world_of model → ¬ HasTooManyPermits model → OnOk r (Appends before after (codes "ok\n")) → OnOk r ((text : List ℕ) × Makes model old (Some new) text × Appends before after (text ++ 10 ∷ []))
made_new model old new before after (Ok v) e n p = (codes "ok", inl (n, ap Some e, refl), p)
made_new model old new before after (Err e) w n p = tt

-- one that is refused for too many permits
pub made_none : {A E : Type 0} (model : Model) (refusal : Refusal) (n : ℕ) (old : Option World) (before after : Option (List ℕ)) (r : Result A E) → IsRefusedFor model refusal → refusal ≡ Permits → n ≡ 4 → OnOk r (Appends before after ((codes "refused " ++ decimal n) ++ 10 ∷ [])) → OnOk r ((text : List ℕ) × Makes model old old text × Appends before after (text ++ 10 ∷ []))
made_none model refusal n old before after (Ok v) h e f p = (codes "refused " ++ decimal 4, inr (subst (IsRefusedFor model) e h, refl, refl), subst (λ k. Appends before after ((codes "refused " ++ decimal k) ++ 10 ∷ [])) f p)
made_none model refusal n old before after (Err w) h e f p = tt

-- a line whose command leads so is played
pub answered : {A E : Type 0} (line : List ℕ) (command : Command) (old new : Option World) (before after : Option (List ℕ)) (r : Result A E) → Asks (words_of line) command → IsPrintable line → IsTrimmed line → OnOk r ((text : List ℕ) × LeadsTo command old new text × Appends before after (text ++ 10 ∷ [])) → OnOk r ((bytes : List ℕ) × PlaysLine line old new bytes × Appends before after bytes)
answered line command old new before after (Ok v) a p t (text, leads, appended) = (
  text ++ 10 ∷ [],
  inr (record { asked = record { command = command; asks = a; printable = p; trimmed = t }; text = text; leads = leads; printed = refl }),
  appended,
)
answered line command old new before after (Err e) a p t h = tt

-- where no line feed is left, the text is one line
pub none_after : (text : List ℕ) → length text ≤ position_or_len (is_byte 10) text → (before_first (is_byte 10) text ≡ text) × (after_first (is_byte 10) text ≡ []) × (lines_of text ≡ text ∷ [])
none_after text far = (
  take_all _ text far,
  drop_all _ text (omega arith),
  slice_split_none (is_byte 10) text (λ k d l. fails_before_first (is_byte 10) text k d (omega arith)),
)

-- nothing but an empty line is left of an empty text, and it is passed over
empty_rest : (mid last : Option World) (others : List ℕ) → Plays (lines_of []) mid last others → (last ≡ mid) × (others ≡ [])
empty_rest mid last others (next, first, rest, inl p, (k, n), e) = (k ∙ p.kept, e ∙ ap (λ f. f ++ rest) p.nothing ∙ n)
empty_rest mid last others (next, first, rest, inr p, (k, n), e) =
    let none : [] ≡ name_of (verb_of p.asked.command) ∷ p.asked.asks.0 = p.asked.asks.1 in
    absurd cc

plays_cases : (text : List ℕ) (old mid last : Option World) (first others : List ℕ) (b : Bool) → ltb (position_or_len (is_byte 10) text) (length text) ≡ b → PlaysLine (before_first (is_byte 10) text) old mid first → Plays (lines_of (after_first (is_byte 10) text)) mid last others → Plays (lines_of text) old last (first ++ others)
plays_cases text old mid last first others true e line more =
    subst (λ ls. Plays ls old last (first ++ others)) (sym (slice_split_first (is_byte 10) text 0 (ltb-true _ _ e))) (mid, first, others, line, more, refl)
plays_cases text old mid last first others false e line more =
    let far = none_after text (ltb-false _ _ e) in
    let over = empty_rest mid last others (subst (λ t. Plays (lines_of t) mid last others) far.1 more) in
    subst (λ ls. Plays ls old last (first ++ others)) (sym far.2) (mid, first, [], subst (λ l. PlaysLine l old mid first) far.0 line, (over.0, refl), ap (λ o. first ++ o) over.1)

-- the script was played up to here, and what the rest prints follows
pub record HasPlayed (text rest : List ℕ) (world : Option World) (old now : Option (List ℕ)) : Type 0 where
  pub bytes : List ℕ
  pub printed : Appends old now bytes
  pub goes_on : (last : Option World) (others : List ℕ) → Plays (lines_of rest) world last others → Plays (lines_of text) None last (bytes ++ others)

pub played_none : (text : List ℕ) (now : Option (List ℕ)) → HasPlayed text text None now now
played_none text now = record { bytes = []; printed = Appends-nothing now; goes_on = λ last others p. p }

pub played_more : (text rest line after : List ℕ) (world mid : Option World) (old now new : Option (List ℕ)) → HasPlayed text rest world old now → line ≡ before_first (is_byte 10) rest → after ≡ after_first (is_byte 10) rest → (first : List ℕ) × PlaysLine line world mid first × Appends now new first → HasPlayed text after mid old new
played_more text rest line after world mid old now new h l a (first, played, appended) = record {
  bytes = h.bytes ++ first;
  printed = Appends-more old now new h.bytes first (h.bytes ++ first) h.printed appended refl;
  goes_on = λ last others p.
      subst (λ b. Plays (lines_of text) None last b) (sym (append_assoc h.bytes first others))
      (h.goes_on last (first ++ others) (plays_cases rest world mid last first others _ refl (subst (λ x. PlaysLine x world mid first) l played) (subst (λ t. Plays (lines_of t) mid last others) a p)));
}

pub played_all : (text rest : List ℕ) (world : Option World) (old now : Option (List ℕ)) → HasPlayed text rest world old now → true ≡ (length rest == 0) → IsPlayed text old now
played_all text [] world old now h e = record {
  last = world;
  bytes = h.bytes;
  plays = subst (λ b. Plays (lines_of text) None world b) (append-nil h.bytes) (h.goes_on world [] (world, [], [], inl (record { skipped = (λ k d l. absurd (omega arith), inl refl); kept = refl; nothing = refl }), (refl, refl), refl));
  printed = h.printed;
}
played_all text (x ∷ xs) world old now h e = absurd (omega (arith, eqb-true _ 0 (sym e)))
