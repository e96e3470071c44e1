-- The words that the code holds, without their references.
use Rattle.script.specs.Words.{Part}
use Rattle.script.specs.declared.words.Word.{Word}

abbrev pub part : Word → Part
part w = record { text = w.text.now; place = w.place }
