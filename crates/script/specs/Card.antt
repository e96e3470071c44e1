-- The refusals of a script: number, layer and place. What the store or a registry refuses comes up whole, and the script adds the line.
--     11  S  first word is no known letter                              place: 0
--     12  S  word missing, empty, extra, malformed or out of range      place: the word's first byte in its line; of a missing word the line's length
--     12  S  script too long                                            place: 65,536, at line 0
use Rattle.std.specs.Prelude.{ℕ}
use Rattle.lease.specs.declared.fault.Layer.{Layer}
use Rattle.lease.specs.declared.fault.Layer.TheVariants.{Script}
use Rattle.history.specs.declared.fault.StoreFault.{StoreFault}
use Rattle.history.specs.Card.{fault_number, fault_layer}
use Rattle.script.specs.declared.fault.ScriptCause.{ScriptCause}
use Rattle.script.specs.declared.fault.ScriptCause.TheVariants.{UnknownLetter, BadWord, TooLong, FromStore}
use Rattle.script.specs.declared.fault.BadWord.{BadWord as bad_word}
use Rattle.script.specs.declared.fault.ScriptFault.{ScriptFault}
use Rattle.script.specs.declared.fault.Refusal.{Refusal}

abbrev pub script_number : ScriptCause → ℕ
script_number UnknownLetter = 11
script_number BadWord = 12
script_number TooLong = 12
script_number (FromStore f) = fault_number f.cause

abbrev pub script_layer : ScriptCause → Layer
script_layer UnknownLetter = Script
script_layer BadWord = Script
script_layer TooLong = Script
script_layer (FromStore f) = fault_layer f.cause

abbrev pub unknown_letter_fault : ℕ → ScriptFault
unknown_letter_fault n = record { cause = UnknownLetter; place = 0; line = n }

abbrev pub bad_word_fault : ℕ → bad_word → ScriptFault
bad_word_fault n w = record { cause = BadWord; place = w.place; line = n }

abbrev pub too_long : ScriptFault
too_long = record { cause = TooLong; place = 65536; line = 0 }

abbrev pub fault_from_store : ℕ → StoreFault → ScriptFault
fault_from_store n f = record { cause = FromStore f; place = f.place; line = n }

abbrev pub refusal_of : ScriptFault → Refusal
refusal_of f = record { number = script_number f.cause; layer = script_layer f.cause; place = f.place; line = f.line }
