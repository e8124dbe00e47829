pub mod Areas
pub mod ForkLaws
pub mod ForkKept
pub mod Rising
pub mod Trees
pub mod Kin
pub mod Numbers
pub mod Lent
