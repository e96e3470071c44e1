-- What the first line of a script asks for: a kind (F or T), a registry (S or L), records, versions and a start.
--     kind_of c            the kind of a letter
--     registry_of c        the registry of a letter
--     sizes_of k r n v s   the opening of a kind and four more words, judged from left to right; else the first bad one
--     opening l            the first line read; else its refusal
use Rattle.std.specs.Prelude.{ℕ, cond, List, length, Some, None, Ok, Err, Option, Result, ◌==◌}
use Rattle.script.specs.Card.{unknown_letter_fault}
use Rattle.script.specs.Commands.{letter_of_word, bind, ended}
use Rattle.script.specs.Kinds.{any}
use Rattle.script.specs.Words.{Part, words, first, rest, bad, judged}
use Rattle.script.specs.declared.fault.BadWord.{BadWord}
use Rattle.script.specs.declared.fault.ScriptFault.{ScriptFault}
use Rattle.script.specs.declared.opening.KindLetter.{KindLetter}
use Rattle.script.specs.declared.opening.KindLetter.TheVariants.{F, T}
use Rattle.script.specs.declared.opening.RegistryLetter.{RegistryLetter}
use Rattle.script.specs.declared.opening.RegistryLetter.TheVariants.{S, L}
use Rattle.script.specs.declared.opening.Opening.{Opening}

abbrev pub kind_of : Option ℕ → Option KindLetter
kind_of None = None
kind_of (Some c) = cond (c == 70) (Some F) (cond (c == 84) (Some T) None)

abbrev pub registry_of : Option ℕ → Option RegistryLetter
registry_of None = None
registry_of (Some c) = cond (c == 83) (Some S) (cond (c == 76) (Some L) None)

-- what follows from a known registry's letter, which is the word w
abbrev pub with_registry : BadWord → Option RegistryLetter → (RegistryLetter → Result Opening BadWord) → Result Opening BadWord
with_registry w None next = Err w
with_registry w (Some r) next = next r

-- at most 64 records and 256 versions
abbrev pub sizes_of : KindLetter → Part → Part → Part → Part → Result Opening BadWord
sizes_of k r n v s =
    with_registry (bad r) (registry_of (letter_of_word r.text)) (λ x. bind (judged 64 n) (λ a. bind (judged 256 v) (λ b. bind (judged any s) (λ c.
    Ok (record { kind = k; registry = x; records = a; versions = b; start = c })))))

abbrev pub with_kind : Option KindLetter → ℕ → List Part → Result Opening ScriptFault
with_kind None n ws = Err (unknown_letter_fault 1)
with_kind (Some k) n ws =
    ended 1 (sizes_of k (first n ws) (first n (rest ws)) (first n (rest (rest ws))) (first n (rest (rest (rest ws))))) (rest (rest (rest (rest ws))))

unfoldable pub opening : List ℕ → Result Opening ScriptFault
opening l = with_kind (kind_of (letter_of_word (first (length l) (words l)).text)) (length l) (rest (words l))
