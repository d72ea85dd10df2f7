-- An image in range is at most 6,076,047 bytes long.
use Rattle.std.proofs.Common.{◌≡◌, ap, sym, ◌∙◌, arith}
use Rattle.image.specs.Layout.{length_of}
use Rattle.image.specs.Disk.{geometry_of}
use Rattle.image.proofs.DiskLaws.{length_le}
use Rattle.blank.proofs.RangeLaws.{range_true}
use Rattle.blank.proofs.disk.size_of_disk.Goals as goal

pub overflow_cast-result : goal.overflow_cast-result
overflow_cast-result c =
    let a = c.args in
    let there = range_true a.cylinders a.heads a.slots a.n 0 (sym c.in_range.ensures ∙ c.if-in_range.true) in
    let g : c.geometry.result ≡ geometry_of a.cylinders a.heads a.slots a.n 0 = c.geometry.ensures in
    omega (arith, length_le _ there, c.length.ensures, ap length_of g)
