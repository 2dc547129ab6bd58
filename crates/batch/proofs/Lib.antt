pub mod FrameLaws
pub mod AskedLaws
pub mod BatchLaws
pub mod GatheredLaws
pub mod TakenLaws
