-- Stated: what is printed of a script that is refused.
use Rattle.std.specs.Prelude.{ℕ, List, [], ◌∷◌, ◌++◌, codes, decimal}
use Rattle.script_text.specs.declared.whys.BadScript.{BadScript}
use Rattle.script_text.specs.declared.whys.Why.{Why}
use Rattle.script_text.specs.declared.whys.Why.TheVariants as why

abbrev pub word_of : Why → List ℕ
word_of why.Shape = codes "shape"
word_of why.Form = codes "form"
word_of why.Number = codes "number"
word_of why.Node = codes "node"
word_of why.Slab = codes "slab"
word_of why.Session = codes "session"
word_of why.Twice = codes "twice"
word_of why.Later = codes "later"

abbrev pub place_text : ℕ → List ℕ
place_text line = codes "bad script line " ++ decimal line

abbrev pub why_text : Why → List ℕ
why_text w = codes ": " ++ (word_of w ++ 10 ∷ [])

-- `bad script line 3: node`
abbrev pub fault_text : BadScript → List ℕ
fault_text bad = place_text bad.line ++ why_text bad.why
