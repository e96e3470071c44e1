-- Numbers written one after the other.
use Rattle.std.proofs.Common.{◌≡◌, ℕ, ◌+◌, ◌<◌, List, [], ◌∷◌, ◌++◌, length, get_or, take, decimal, sym, ap, ◌∙◌}
use Rattle.std.proofs.lemmas.List.{take_more, append_assoc, append-nil}
use Rattle.transcript.specs.Texts.{spaced}

spaced_push : (xs : List ℕ) (n : ℕ) → spaced (xs ++ n ∷ []) ≡ spaced xs ++ (32 ∷ decimal n)
spaced_push [] n = ap (λ ds. 32 ∷ ds) (append-nil (decimal n))
spaced_push (x ∷ xs) n = ap (λ ys. 32 ∷ (decimal x ++ ys)) (spaced_push xs n) ∙ ap (λ ys. 32 ∷ ys) (sym (append_assoc (decimal x) (spaced xs) (32 ∷ decimal n)))

-- one number more
pub spaced_more : (xs : List ℕ) (i n : ℕ) → i < length xs → get_or xs i 0 ≡ n → spaced (take i xs) ++ (32 ∷ decimal n) ≡ spaced (take (i + 1) xs)
spaced_more xs i n within is =
    ap (λ m. spaced (take i xs) ++ (32 ∷ decimal m)) (sym is) ∙ sym (spaced_push (take i xs) (get_or xs i 0)) ∙ ap spaced (sym (take_more xs i 0 within))
