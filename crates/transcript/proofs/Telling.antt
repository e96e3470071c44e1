-- What the code prints by the model's steps is what a run's outcomes tell, and the law holds of that run.
use Rattle.std.proofs.Common.{◌≡◌, ℕ, ◌+◌, List, [], ◌∷◌, ◌++◌, length, Ok, Err, Result, sym, refl, ap, ◌∙◌}
use Rattle.std.proofs.lemmas.List.{append_assoc}
use Rattle.kind.specs.Kinds.{Ops, Laws}
use Rattle.history.specs.declared.call.Call.{Call}
use Rattle.history.specs.Law.{Asked}
use Rattle.history.specs.Model.{Model, step, in_use, kept_chains, new_model, outcomes, model_after, leases_after}
use Rattle.history.proofs.Simulation.{model_lawful}
use Rattle.script.specs.Commands.{line_call}
use Rattle.script.specs.Kinds.{Terms}
use Rattle.script.specs.declared.fault.ScriptFault.{ScriptFault}
use Rattle.transcript.specs.Printing.{by_call, print_line, print_lines}
use Rattle.transcript.specs.Runs.{room, calls, more_calls, line_text, outcomes_left, told_text, Ran}
use Rattle.transcript.specs.Texts.{fault_line, outcome_text, end_text}

module _ {Row Edit Change : Type 0} (k : Ops Row Edit Change) (t : Terms Edit) (cap : ℕ) where
  abbrev ending : Model Row Change → List ℕ → List (Asked Edit) → List ℕ
  ending m ls cs = end_text (in_use (model_after k cap m ls cs).records) (length (leases_after k cap m ls cs))

  abbrev ToldSo : ℕ → Model Row Change → List ℕ → List (List ℕ) → Type 0
  ToldSo n m ls lines = print_lines k t cap n m ls lines ≡ told_text k t n lines (outcomes k cap m ls (calls k t n lines)) ++ ending m ls (calls k t n lines)

  -- one line in front of lines that are told so
  one_told : (lines : List (List ℕ)) (n : ℕ) → ((m : Model Row Change) (ls : List ℕ) → ToldSo (n + 1) m ls lines) → (m : Model Row Change) (ls : List ℕ) (r : Result (Call Edit) ScriptFault) →
      (by_call k t cap n m ls r).text ++ print_lines k t cap (n + 1) (by_call k t cap n m ls r).model (by_call k t cap n m ls r).leases lines
      ≡ (line_text k t n r (outcomes k cap m ls (more_calls k t r (calls k t (n + 1) lines))) ++ told_text k t (n + 1) lines (outcomes_left k t r (outcomes k cap m ls (more_calls k t r (calls k t (n + 1) lines))))) ++ ending m ls (more_calls k t r (calls k t (n + 1) lines))
  one_told lines n told m ls (Err f) =
      ap (λ ys. fault_line f ++ ys) (told m ls)
      ∙ sym (append_assoc (fault_line f) (told_text k t (n + 1) lines (outcomes k cap m ls (calls k t (n + 1) lines))) (ending m ls (calls k t (n + 1) lines)))
  one_told lines n told m ls (Ok c) =
      let st = step k cap m ls room c in
      ap (λ ys. outcome_text k.tells n st.told ++ ys) (told st.model st.leases)
      ∙ sym (append_assoc (outcome_text k.tells n st.told) (told_text k t (n + 1) lines (outcomes k cap st.model st.leases (calls k t (n + 1) lines))) (ending st.model st.leases (calls k t (n + 1) lines)))

  pub printed_told : (lines : List (List ℕ)) (n : ℕ) (m : Model Row Change) (ls : List ℕ) → ToldSo n m ls lines
  unfolding print_lines print_line
  printed_told [] n m ls = refl
  printed_told (l ∷ lines) n m ls = one_told lines n (printed_told lines (n + 1)) m ls (line_call t n l)

module _ {Row Edit Change : Type 0} {k : Ops Row Edit Change} (laws : Laws k) (t : Terms Edit) where
  pub ran : (capacity n v start : ℕ) (lines : List (List ℕ)) (text : List ℕ) → text ≡ print_lines k t capacity 2 (new_model k n v start) [] lines → Ran k t capacity n v start lines text
  ran capacity n v start lines text e =
      let cs = calls k t 2 lines in
      let m = new_model k n v start in
      record {
        outs = outcomes k capacity m [] cs;
        clock = (model_after k capacity m [] cs).clock;
        leases = leases_after k capacity m [] cs;
        chains = kept_chains (model_after k capacity m [] cs).records;
        used = in_use (model_after k capacity m [] cs).records;
        law = model_lawful k laws capacity n v start cs;
        ruled = refl;
        told = e ∙ printed_told k t capacity lines 2 m [];
      }
