pub mod Lines
pub mod Pages
pub mod Places
pub mod Rules
pub mod Office
pub mod Example
