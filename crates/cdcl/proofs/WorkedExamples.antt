-- The first fifteen numbers of the series of Luby, Sinclair and Zuckerman (1993): 1, 1, 2, 1, 1, 2, 4, 1, 1, 2, 1, 1, 2, 4, 8.
use Rattle.std.proofs.Common.{refl, arith}
use Rattle.cdcl.specs.Luby.{IsLuby, last, again}

pub first : IsLuby 1 1
first = last 0 1 1 refl refl

pub second : IsLuby 2 1
second = again 1 2 1 (omega arith) (omega arith) first

pub third : IsLuby 3 2
third = last 1 3 2 refl refl

pub fourth : IsLuby 4 1
fourth = again 2 4 1 (omega arith) (omega arith) first

pub fifth : IsLuby 5 1
fifth = again 2 5 1 (omega arith) (omega arith) second

pub sixth : IsLuby 6 2
sixth = again 2 6 2 (omega arith) (omega arith) third

pub seventh : IsLuby 7 4
seventh = last 2 7 4 refl refl

pub eighth : IsLuby 8 1
eighth = again 3 8 1 (omega arith) (omega arith) first

pub ninth : IsLuby 9 1
ninth = again 3 9 1 (omega arith) (omega arith) second

pub tenth : IsLuby 10 2
tenth = again 3 10 2 (omega arith) (omega arith) third

pub eleventh : IsLuby 11 1
eleventh = again 3 11 1 (omega arith) (omega arith) fourth

pub twelfth : IsLuby 12 1
twelfth = again 3 12 1 (omega arith) (omega arith) fifth

pub thirteenth : IsLuby 13 2
thirteenth = again 3 13 2 (omega arith) (omega arith) sixth

pub fourteenth : IsLuby 14 4
fourteenth = again 3 14 4 (omega arith) (omega arith) seventh

pub fifteenth : IsLuby 15 8
fifteenth = last 3 15 8 refl refl
