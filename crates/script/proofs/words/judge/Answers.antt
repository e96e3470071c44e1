use Rattle.std.proofs.Common.{◌≡◌, ℕ, Bool, true, false, leb, cond, Some, None, Ok, Err, Option, refl, ap, ◌∙◌, rules}
use Rattle.std.specs.Bool.{then_some}
use Rattle.std.specs.Option.{MatchOption, ok_or}
use Rattle.script.specs.Spans.{part}
use Rattle.script.specs.Words.{bad, judged, within}
use Rattle.script.specs.declared.fault.BadWord.{BadWord}
use Rattle.script.proofs.words.judge.Goals as goal

-- a number that a filter at b leaves, or else the bad word e; P is what the filter's test is known to return
filtered : (b : ℕ) (e : BadWord) (P : ℕ → Bool → Type 0) → ((x : ℕ) (r : Bool) → P x r → r ≡ leb x b) → (o f : Option ℕ) →
    MatchOption o (f ≡ None) (λ x. (r : Bool) × P x r × (f ≡ then_some r x)) → ok_or f e ≡ within b e o
filtered b e P p None f h = ap (λ g. ok_or g e) h
filtered b e P p (Some n) f h = ap (λ g. ok_or g e) h.2 ∙ ap (λ r. ok_or (then_some r n) e) (p n h.0 h.1) ∙ chosen (leb n b)
  where
    chosen : (r : Bool) → ok_or (then_some r n) e ≡ cond r (Ok n) (Err e)
    chosen true = refl
    chosen false = refl

pub returns : goal.returns
unfolding judged
returns c =
    c.ok_or.ensures.value ∙ ap (λ e. ok_or c.filter.result e) c.bad.ensures
    ∙ filtered c.args.most (bad (part c.args.word)) _ (λ x r q. search rules) c.number.result c.filter.result c.filter.ensures
    ∙ ap (λ o. within c.args.most (bad (part c.args.word)) o) c.number.ensures
