-- `files::image::image_buffer` meets its contract: by the law, since two million zeros are not to be counted out.
use Rattle.std.proofs.Common.{ℕ, sym}
use Rattle.std.proofs.lemmas.List.{length-replicate}
use Rattle.files.proofs.image.image_buffer.Goals as goal

pub returns : goal.returns
returns c = sym (length-replicate {A = ℕ} 2097152 0)
