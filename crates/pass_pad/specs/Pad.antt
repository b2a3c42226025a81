-- What the pass means.
use Rattle.std.specs.Prelude.{◌≡◌, codes}
use Rattle.pass_law.specs.Meaning.{Meaning, is_name}
use Rattle.pass_pad.specs.Padded.{IsPadded, padded_size}

-- It is named `pad`. Two steps of the result serve for one of the program, since a call makes one step more.
abbrev pub pad_meaning : Meaning
pad_meaning = record {
  answers = is_name (codes "pad");
  IsFactor = λ P profile k. k ≡ 2;
  IsBound = λ P profile k. k ≡ padded_size P;
  Makes = λ P profile Q. IsPadded P Q;
}
