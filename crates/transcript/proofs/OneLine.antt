-- One line: its refusal, or its call performed and told.
use Rattle.std.proofs.Common.{◌≡◌, ℕ, ◌+◌, List, [], ◌∷◌, ◌++◌, length, take, drop, Ok, Err, sym, ap, ◌∙◌}
use Rattle.std.proofs.lemmas.List.{take_at, append_assoc}
use Rattle.kind.specs.Kinds.{Ops}
use Rattle.history.specs.declared.call.Call.{Call}
use Rattle.history.specs.declared.call.Outcome.{Outcome}
use Rattle.history.specs.Model.{Model, step, in_use}
use Rattle.run.specs.Steps.{Performed}
use Rattle.run.specs.Runs.{wrote}
use Rattle.run.proofs.Journals.{step_fine}
use Rattle.script.specs.Commands.{line_call}
use Rattle.script.specs.Kinds.{Terms}
use Rattle.script.specs.Lines.{lines_left}
use Rattle.script.specs.declared.reader.Reader.{Reader}
use Rattle.script.specs.declared.fault.ScriptFault.{ScriptFault}
use Rattle.transcript.specs.Printing.{Printed, by_call, print_line, print_lines, Behind, left}
use Rattle.transcript.specs.Runs.{room}
use Rattle.transcript.specs.Texts.{fault_line, outcome_line, end_text}

module _ {Row Edit Change : Type 0} (k : Ops Row Edit Change) (t : Terms Edit) (capacity n : ℕ) (m : Model Row Change) (ls l b b' : List ℕ) where
  pub refused_line : (f : ScriptFault) → Err f ≡ line_call t n l → b' ≡ b ++ fault_line f → Behind (print_line k t capacity n m ls l) b b' m ls
  unfolding print_line
  refused_line f e w =
      let p : by_call k t capacity n m ls (Err f) ≡ by_call k t capacity n m ls (line_call t n l) = ap (by_call k t capacity n m ls) e in
      record {
        text = w ∙ ap (λ (q : Printed Row Change). b ++ q.text) p;
        model = ap (λ (q : Printed Row Change). q.model) p;
        leases = ap (λ (q : Printed Row Change). q.leases) p;
      }

  pub called_line : (c : Call Edit) (o : Outcome Row) (m' : Model Row Change) (ls' list list' : List ℕ) (w : ℕ) → Ok c ≡ line_call t n l → length list ≡ room → Performed (step k capacity m ls (length list) c) o m' ls' list list' → w ≡ wrote o →
      b' ≡ b ++ outcome_line k.tells n (take w list') o → Behind (print_line k t capacity n m ls l) b b' m' ls'
  unfolding print_line
  called_line c o m' ls' list list' w e size q is text =
      let p : by_call k t capacity n m ls (Ok c) ≡ by_call k t capacity n m ls (line_call t n l) = ap (by_call k t capacity n m ls) e in
      let st = step k capacity m ls (length list) c in
      let here : st ≡ step k capacity m ls room c = ap (λ x. step k capacity m ls x c) size in
      let wide : w ≡ length st.told.written = is ∙ ap wrote q.outcome ∙ (step_fine k capacity m ls (length list) c).0 in
      let front : take w list' ≡ st.told.written = ap (take w) q.list ∙ take_at st.told.written (drop (length st.told.written) list) w (sym wide) in
      let whole : outcome_line k.tells n (take w list') o ≡ outcome_line k.tells n st.told.written st.told.outcome = ap (λ x. outcome_line k.tells n x o) front ∙ ap (outcome_line k.tells n st.told.written) q.outcome in
      record {
        text = text ∙ ap (λ x. b ++ x) (whole ∙ ap (λ s. outcome_line k.tells n s.told.written s.told.outcome) here) ∙ ap (λ (q : Printed Row Change). b ++ q.text) p;
        model = q.model ∙ ap (λ s. s.model) here ∙ ap (λ (q : Printed Row Change). q.model) p;
        leases = q.leases ∙ ap (λ s. s.leases) here ∙ ap (λ (q : Printed Row Change). q.leases) p;
      }

-- a reader's next line
pub line_on : (r r' : Reader) (l : List ℕ) → lines_left r.bytes.now r.at r.line ≡ l ∷ lines_left r'.bytes.now r'.at r'.line → left r ≡ l ∷ left r'
unfolding left
line_on r r' l h = h

pub no_line : (r : Reader) → lines_left r.bytes.now r.at r.line ≡ [] → left r ≡ []
unfolding left
no_line r h = h

module _ {Row Edit Change : Type 0} (k : Ops Row Edit Change) (t : Terms Edit) (capacity n : ℕ) (m m' : Model Row Change) (ls ls' b b' whole : List ℕ) where
  -- one line more, behind what was printed before
  pub lines_more : (n' n'' : ℕ) (l : List ℕ) (now-left then-left : List (List ℕ)) → n' ≡ n → n'' ≡ n + 1 → now-left ≡ l ∷ then-left → Behind (print_line k t capacity n' m ls l) b b' m' ls' →
      b ++ print_lines k t capacity n m ls now-left ≡ whole → b' ++ print_lines k t capacity n'' m' ls' then-left ≡ whole
  unfolding print_lines
  lines_more n' n'' l now-left then-left e f at-l p inv =
      let q = print_line k t capacity n m ls l in
      let here : print_line k t capacity n' m ls l ≡ q = ap (λ x. print_line k t capacity x m ls l) e in
      let text : b' ≡ b ++ q.text = p.text ∙ ap (λ (z : Printed Row Change). b ++ z.text) here in
      let model : m' ≡ q.model = p.model ∙ ap (λ (z : Printed Row Change). z.model) here in
      let leases : ls' ≡ q.leases = p.leases ∙ ap (λ (z : Printed Row Change). z.leases) here in
      ap (λ x. x ++ print_lines k t capacity n'' m' ls' then-left) text
      ∙ append_assoc b q.text (print_lines k t capacity n'' m' ls' then-left)
      ∙ ap (λ x. b ++ (q.text ++ print_lines k t capacity x m' ls' then-left)) f
      ∙ ap (λ x. b ++ (q.text ++ print_lines k t capacity (n + 1) x ls' then-left)) model
      ∙ ap (λ x. b ++ (q.text ++ print_lines k t capacity (n + 1) q.model x then-left)) leases
      ∙ ap (λ x. b ++ print_lines k t capacity n m ls x) (sym at-l) ∙ inv

  -- and the end
  pub lines_end : (now-left : List (List ℕ)) (used leases : ℕ) → now-left ≡ [] → used ≡ in_use m.records → leases ≡ length ls → b' ≡ b ++ end_text used leases →
      b ++ print_lines k t capacity n m ls now-left ≡ whole → b' ≡ whole
  unfolding print_lines
  lines_end now-left used leases none u o text inv =
      text ∙ ap (λ x. b ++ end_text x leases) u ∙ ap (λ x. b ++ end_text (in_use m.records) x) o
      ∙ ap (λ x. b ++ print_lines k t capacity n m ls x) (sym none) ∙ inv
